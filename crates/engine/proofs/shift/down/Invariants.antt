-- The elements up to i have moved.
use mathlib.Core.Path.{◌≡◌}
use lib.ListN.{length}
use Rattle.engine.proofs.Moves as moves
use Rattle.engine.proofs.shift.down.Given as goal

abbrev pub invariant-loop-i : goal.invariant-loop-i
invariant-loop-i o l = (length l.l ≡ length l.initial.l) × (l.l ≡ moves.down l.initial.l l.from l.by l.i)
