-- `is_padded` meets its contract: what follows the message decides.
use mathlib.Core.Path.{◌∙◌, ap}
use mathlib.Core.List.{List}
use Prim.Native.Nat.{ℕ, ◌+◌}
use native.Mathlib.Omega.{arith}
use lib.Dec.{eqb}
use lib.ListN.{drop}
use Rattle.console.specs.Each.{all}
use Rattle.dialogue.specs.Outbox.{padded}
use Rattle.dialogue.proofs.record.is_padded.Goals as goal

pub overflow_add-size : goal.overflow_add-size
overflow_add-size c =
    omega arith

pub returns : goal.returns
unfolding padded
returns c =
    let s = c.args.s.now in
    c.is_all.ensures ∙ ap (λ (l : List ℕ). all (eqb 0) l) (c.tail.ensures ∙ ap (λ (n : ℕ). drop (12 + n) s) c.number_at-size.ensures.0)
