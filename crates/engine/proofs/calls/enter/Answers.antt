-- `calls::enter` meets its contract: put over the name that is held, or in where it is to stand.
use mathlib.Core.Path.{refl, subst}
use native.Mathlib.Omega.{arith}
use Rattle.engine.specs.Spot.{Spotted}
use Rattle.engine.specs.Held.{advertised}
use Rattle.engine.specs.Arrays.{names_in}
use Rattle.engine.proofs.Lending as lending
use Rattle.engine.proofs.calls.enter.Goals as goal

pub returns-in-Ok : goal.returns-in-Ok
returns-in-Ok c =
    let a = c.args in
    let s = subst (Spotted advertised a.new.now.name.now (names_in a.head.now a.numbers.now a.texts.now)) c.in-Ok.is c.requires.0 in
    lending.entered-over a.head.now a.numbers.now a.texts.now a.new.now.name.now _ s c.count_of-n.result c.count_of-n.ensures _ _ a.new.now.service.now a.new.now.location.text.now refl c.put_over.ensures

pub returns-in-Err : goal.returns-in-Err
returns-in-Err c =
    let a = c.args in
    let s = subst (Spotted advertised a.new.now.name.now (names_in a.head.now a.numbers.now a.texts.now)) c.in-Err.is c.requires.0 in
    let free = lending.spot_free a.head.now a.numbers.now a.texts.now a.new.now.name.now _ s c.requires.1 refl in
    let count = c.count_of-n.ensures in
    lending.entered-in a.head.now a.numbers.now a.texts.now a.new.now.name.now _ s c.count_of-n.result c.count_of-n.ensures _ _ a.new.now.service.now a.new.now.location.text.now refl (omega arith) c.put_in.ensures

pub put_over-requires : goal.put_over-requires
put_over-requires c =
    let a = c.args in
    let s = subst (Spotted advertised a.new.now.name.now (names_in a.head.now a.numbers.now a.texts.now)) c.in-Ok.is c.requires.0 in
    let at = lending.spot_lt a.head.now a.numbers.now a.texts.now a.new.now.name.now _ s refl in
    let count = c.count_of-n.ensures in
    (omega arith, omega arith)

pub put_in-requires : goal.put_in-requires
put_in-requires c =
    let a = c.args in
    let s = subst (Spotted advertised a.new.now.name.now (names_in a.head.now a.numbers.now a.texts.now)) c.in-Err.is c.requires.0 in
    let at = lending.spot_le a.head.now a.numbers.now a.texts.now a.new.now.name.now _ s in
    let free = lending.spot_free a.head.now a.numbers.now a.texts.now a.new.now.name.now _ s c.requires.1 refl in
    let count = c.count_of-n.ensures in
    (omega arith, omega arith)
