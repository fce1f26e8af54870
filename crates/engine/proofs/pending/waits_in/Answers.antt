use mathlib.Core.List.{[]}
use Rattle.engine.proofs.TablePasses.{waiting-turn, waiting-over}
use native.Mathlib.Omega.{arith}
use Rattle.engine.proofs.pending.waits_in.Goals as goal

pub overflow_add-waiting : goal.overflow_add-waiting
overflow_add-waiting c = omega (arith, (c.loop-i.invariant []).many.few)

pub loop-i-preserved : goal.loop-i-preserved
loop-i-preserved c =
    let a = c.args in
    let h = c.loop-i in
    λ texts. waiting-turn a.time a.head.now a.numbers.now texts (omega arith) c.reply_at-needed.ensures c.waits-waiting.ensures c.sooner-poll.ensures (h.invariant texts)

pub returns : goal.returns
returns c =
    let a = c.args in
    λ texts. waiting-over a.time a.head.now a.numbers.now texts (omega arith) (c.loop-i.invariant texts)
