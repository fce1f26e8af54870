use mathlib.Core.List.{[]}
use Rattle.engine.proofs.TablePasses.{due-turn, due-over}
use native.Mathlib.Omega.{arith}
use Rattle.engine.proofs.pending.due_in.Goals as goal

pub overflow_add-alone : goal.overflow_add-alone
overflow_add-alone c = omega (arith, (c.loop-i.invariant []).first.few, c.due_of-step.ensures.0.1)

pub overflow_add-group : goal.overflow_add-group
overflow_add-group c = omega (arith, (c.loop-i.invariant []).second.few, c.due_of-step.ensures.1.1)

pub loop-i-preserved : goal.loop-i-preserved
loop-i-preserved c =
    let a = c.args in
    let h = c.loop-i in
    let step = c.due_of-step.ensures in
    (λ texts. due-turn a.time a.head.now a.numbers.now texts (omega arith) c.reply_at.ensures step.0 step.1 (h.invariant texts))

pub returns : goal.returns
returns c =
    let a = c.args in
    let h = c.loop-i in (
      λ texts. due-over a.time a.head.now a.numbers.now texts (omega arith) (h.invariant texts),
      omega (arith, (h.invariant []).first.few),
      omega (arith, (h.invariant []).second.few),
    )
