use Rattle.engine.specs.Replies.{served, alone_at, group_at}
use Rattle.engine.specs.Arrays.{numbers_width, texts_width, entry_in}
use Rattle.engine.specs.Changes.{PassAll}
use Rattle.engine.proofs.TableRows.{rows-length}
use Rattle.engine.proofs.NameRows.{as_held}
use Rattle.engine.proofs.TablePasses.{pass-turn, pass-over}
use native.Mathlib.Omega.{arith}
use Rattle.engine.proofs.pending.serve_all.Goals as goal

pub loop-i-preserved : goal.loop-i-preserved
loop-i-preserved c =
    let a = c.args in
    let h = c.loop-i in
    let n = c.count_of-n.result in
    λ texts.
    let few = rows-length numbers_width texts_width entry_in n a.numbers.now texts in
    pass-turn _ _ _ _ _ h.i (omega arith) (c.serve_one-step.ensures n texts (omega arith) (omega arith)) (h.invariant texts)

pub returns : goal.returns
returns c =
    λ texts.
    let a = c.args in
    let h = c.loop-i in
    let few = rows-length numbers_width texts_width entry_in c.count_of-n.result a.numbers.now texts in
    as_held a.head.now a.numbers.now _ texts texts (λ l l'. PassAll (served a.time) (alone_at a.time) (group_at a.time) l l' h.alone h.group) c.count_of-n.ensures (pass-over _ _ _ _ _ (omega arith) (h.invariant texts))
