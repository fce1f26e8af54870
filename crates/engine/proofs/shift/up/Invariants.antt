-- The elements from i on have moved.
use mathlib.Core.Path.{◌≡◌}
use Prim.Native.Nat.{◌≤◌}
use lib.ListN.{length}
use Rattle.engine.proofs.Moves as moves
use Rattle.engine.proofs.shift.up.Given as goal

abbrev pub invariant-loop-i : goal.invariant-loop-i
invariant-loop-i o l = (l.from ≤ l.i) × (length l.l ≡ length l.initial.l) × (l.l ≡ moves.up l.initial.l l.end l.by l.i)
