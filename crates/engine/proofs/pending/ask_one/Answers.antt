use mathlib.Core.Path.{ap}
use Rattle.engine.specs.Target.{target_match}
-- A name that the search asks for is answered and counted; any other stays.
use mathlib.Core.Path.{sym, ◌∙◌}
use Rattle.engine.specs.Passes.{asked_of}
use Rattle.engine.specs.Arrays.{entry_at}
use Rattle.engine.proofs.NameRows.{entry-is}
use Rattle.engine.proofs.TablePasses.{ask-miss}
use Rattle.engine.proofs.pending.ask_one.Goals as goal

pub returns : goal.returns
returns c =
    λ n h m.
    let a = c.args in
    ask-miss a.search.now.due (asked_of a.search.now) (entry_at a.i a.numbers.now a.texts.now) (entry-is n a.i a.numbers.now a.texts.now h) (ap (target_match a.search.now.target.now) (sym c.service_at.ensures) ∙ sym c.wants.ensures ∙ c.if-wants.false)
