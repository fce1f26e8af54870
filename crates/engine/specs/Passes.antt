-- The parts of a search on which replies depend.
use Rattle.std.specs.Prelude.{ℕ}
use Rattle.engine.specs.Held.{Text}
use Rattle.engine.specs.Calls.{Query}
use Rattle.engine.specs.declared.advertisement.Endpoint.{Endpoint}
use Rattle.engine.specs.declared.search.Search as code

abbrev pub asked_by : Text → Endpoint → ℕ → Query
asked_by target sender receiver = record { target = target; mx = 0; sender = sender; receiver = receiver; time = 0 }

-- those of a search as it is put to each name
abbrev pub asked_of : code.Search → Query
asked_of s = asked_by s.target.now s.sender s.receiver
