use mathlib.Core.Path.{refl, ◌∙◌, ap}
use Prim.Native.Nat.{◌+◌, ◌-◌}
use lib.ListN.{set, length-set}
use native.Mathlib.Omega.{arith}
use Rattle.engine.proofs.Moves as moves
use Rattle.engine.proofs.shift.up.Goals as goal

pub loop-i-init : goal.loop-i-init
loop-i-init o c = let s = c.args in (omega arith, refl, moves.up_start s.l.now s.end s.by)

pub loop-i-preserved : goal.loop-i-preserved
loop-i-preserved o c =
    let s = c.args in
    let h = c.loop-i in
    let x = c.index-l-i.result in (
      omega arith,
      simp length-set h.invariant.1,
      ap (set h.l (h.i - 1 + s.by)) c.index-l-i.is ∙ moves.up_turn s.l.now s.end s.by x h.l h.i (h.i - 1) (omega arith) (omega arith) (omega arith) h.invariant.2,
    )

pub returns : goal.returns
returns o c =
    let s = c.args in
    let h = c.loop-i in
    h.invariant.2 ∙ ap (moves.up s.l.now s.end s.by) (omega arith) ∙ moves.up_end s.l.now s.end s.by s.from (omega arith)
