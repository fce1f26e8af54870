-- Case by case of what was found.
use Rattle.std.proofs.Common.{◌≡◌, ℕ, List, false, refl, sym, ◌∙◌}
use Rattle.text.specs.Bytes.{equal}
use Rattle.engine.specs.Target.{ssdp_all}
use Rattle.engine.specs.Wanted.{wanted_of}
use Rattle.engine.specs.declared.wanted.Wanted.{Wanted}
use Rattle.engine.specs.declared.wanted.Wanted.TheVariants.{All, Same, Version}
use Rattle.engine.proofs.Wanting.{every-type}
use Rattle.engine.proofs.wanted.wants_all.Goals as goal

some_types : (wanted : Wanted) → (wanted ≡ All → ⊥) → (search : List ℕ) → wanted ≡ wanted_of search → false ≡ equal search ssdp_all
some_types All other search e = absurd (other refl)
some_types Same other search e = every-type search e
some_types (Version place n) other search e = every-type search e

pub returns-in-All : goal.returns-in-All
returns-in-All c = λ search e. every-type search (sym c.in-All.is ∙ e)

pub returns-in_default : goal.returns-in_default
returns-in_default c = some_types c.args.wanted c.in_default.not-All
