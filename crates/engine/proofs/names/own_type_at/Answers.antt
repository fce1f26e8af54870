-- The parts that come back are row i with another reply, and its own type as the answer type.
use mathlib.Core.Path.{refl, ◌∙◌, ap}
use mathlib.Core.List.{List, []}
use Prim.Native.Nat.{ℕ}
use native.Mathlib.Omega.{arith}
use Rattle.engine.specs.Arrays.{entries}
use Rattle.engine.specs.Changes.{change_at, blank, with_active}
use Rattle.engine.proofs.NameRows as names
use Rattle.engine.proofs.names.own_type_at.Goals as goal

pub returns : goal.returns
returns c =
    let s = c.args in
    let row = names.active_row s.i s.numbers.now s.texts.now c.set_active.new.row c.set_own_answer.new.row s.reply
    (omega arith) (omega arith) (omega arith) c.set_active.ensures (c.set_own_answer.ensures _)
    in
    λ n h g.
    names.put-active n s.i s.numbers.now s.texts.now (omega arith) (omega arith) _ _ h g row
    ∙ ap (λ (t : List ℕ). change_at blank s.i (with_active s.reply t) (entries n s.numbers.now s.texts.now)) (names.own_type s.i s.numbers.now s.texts.now [] _ refl)
