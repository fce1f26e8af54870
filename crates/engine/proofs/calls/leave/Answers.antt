-- `calls::leave` meets its contract: taken out, where it is held.
use mathlib.Core.Path.{refl, subst}
use Rattle.engine.specs.Spot.{Spotted}
use Rattle.engine.specs.Held.{advertised}
use Rattle.engine.specs.Arrays.{names_in}
use Rattle.engine.proofs.Lending as lending
use Rattle.engine.proofs.calls.leave.Goals as goal

pub returns-in_default : goal.returns-in_default
returns-in_default c name spotted =
    let a = c.args in
    lending.left_same a.head.now a.numbers.now a.texts.now name _ (subst (Spotted advertised name (names_in a.head.now a.numbers.now a.texts.now)) c.in_default.is spotted) c.count_of-n.result c.count_of-n.ensures refl

pub returns : goal.returns
returns c name spotted =
    let a = c.args in
    lending.left_out a.head.now a.numbers.now a.texts.now name _ (subst (Spotted advertised name (names_in a.head.now a.numbers.now a.texts.now)) c.in-Ok.is spotted) c.count_of-n.result c.count_of-n.ensures _ _ refl c.taken_out.ensures
