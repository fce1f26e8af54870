use mathlib.Core.Path.{refl, ◌∙◌, ap}
use Prim.Native.Nat.{◌+◌}
use native.Mathlib.Numerals.{add-one}
use lib.ListN.{set, length-set}
use native.Mathlib.Omega.{arith}
use Rattle.engine.proofs.Moves as moves
use Rattle.engine.proofs.shift.down.Goals as goal

pub loop-i-init : goal.loop-i-init
loop-i-init o c = let s = c.args in (refl, moves.down-start s.l.now s.from s.by)

pub loop-i-preserved : goal.loop-i-preserved
loop-i-preserved o c =
    let s = c.args in
    let h = c.loop-i in
    let x = c.index-l-i.result in (
      simp length-set h.invariant.0,
      ap (set h.l h.i) c.index-l-i.is ∙ moves.down_turn s.l.now s.from s.by x h.l h.i (h.i + 1) (add-one _) (omega arith) (omega arith) h.invariant.1,
    )

pub returns : goal.returns
returns o c =
    let s = c.args in
    let h = c.loop-i in
    h.invariant.1 ∙ ap (moves.down s.l.now s.from s.by) (omega arith) ∙ moves.down-end s.l.now s.from s.by s.end (omega arith)
