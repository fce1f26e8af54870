use Rattle.std.proofs.Common.{refl, arith}
use Rattle.engine.specs.Announcements.{announced}
use Rattle.engine.proofs.Runs as runs
use Rattle.engine.proofs.announce.announce_on_all.Goals as goal

pub loop-k-init : goal.loop-k-init
loop-k-init c = runs.start

pub loop-k-preserved : goal.loop-k-preserved
loop-k-preserved c =
    let a = c.args in
    let all = runs.each a.up.now (announced a.what.now) in
    runs.turn 0 refl all c.requires (omega arith) (omega arith) c.loop-k.invariant c.announce.ensures refl

pub returns : goal.returns
returns c =
    let a = c.args in
    let all = runs.each a.up.now (announced a.what.now) in
    let s = runs.end all (omega arith) c.loop-k.invariant in
    record { number = omega (arith, s.number, c.loop-k.invariant.within); bytes = s.bytes }
