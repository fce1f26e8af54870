-- The records of the salvo, if that is due, and the replies that are due, those to the group once an address.
use mathlib.Core.Path.{sym, ◌∙◌, ap}
use mathlib.Core.Bool.{cond}
use Prim.Native.Nat.{ℕ, ◌+◌, ◌*◌}
use lib.Dec.{leb}
use Rattle.engine.specs.Sizes.{record_size}
use Rattle.engine.specs.Need.{searches_count, record_count, need}
use Rattle.engine.specs.Engine.{names_of}
use Rattle.engine.specs.Arrays.{timer_in, searches_in, held}
use Rattle.engine.proofs.NameRows.{names-length}
use Rattle.engine.proofs.need.of_timeout.Goals as goal

pub returns : goal.returns
unfolding need record_count names_of held
returns c texts room =
    let a = c.args in
    let head = a.head.now in
    let due = c.due_in-due.ensures.0 texts in
    let up = c.up_count-up.ensures.0 in
    let names = ap (λ (k : ℕ). k + searches_count (searches_in head a.searches.now)) (sym (names-length head a.numbers.now texts)) in
    let salvo = c.salvo_count-salvo.ensures.0 ∙ (λ i. cond (leb (timer_in head).next_salvo a.time) (names i * up i) 0) in
    λ i. record_size * (salvo i + due.0 i + due.1 i * up i)
