use Rattle.engine.specs.Replies.{asked, matched_by, joined_by}
use Rattle.engine.specs.Passes.{asked_of}
use Rattle.engine.specs.Arrays.{numbers_width, texts_width, entry_in}
use Rattle.engine.specs.Changes.{PassAll}
use Rattle.engine.proofs.TableRows.{rows-length}
use Rattle.engine.proofs.NameRows.{as_held}
use Rattle.engine.proofs.TablePasses.{pass-turn, pass-over}
use native.Mathlib.Omega.{arith}
use Rattle.engine.proofs.pending.ask_all.Goals as goal

pub loop-i-preserved : goal.loop-i-preserved
loop-i-preserved c =
    let a = c.args in
    let h = c.loop-i in
    let n = c.count_of-n.result in
    let few = rows-length numbers_width texts_width entry_in n a.numbers.now a.texts.now in
    let step = c.ask_one-step.ensures n (omega arith) (omega arith) in
    (pass-turn _ _ _ _ _ h.i (omega arith) step h.invariant)

pub returns : goal.returns
returns c =
    let a = c.args in
    let h = c.loop-i in
    let few = rows-length numbers_width texts_width entry_in c.count_of-n.result a.numbers.now a.texts.now in
    let q = asked_of a.search.now in
    as_held a.head.now a.numbers.now _ a.texts.now _ (λ l l'. PassAll (asked a.search.now.due q) (matched_by q) (joined_by q) l l' h.matched h.joined) c.count_of-n.ensures (pass-over _ _ _ _ _ (omega arith) h.invariant)
