-- `white::leading_of`: the white space at the front is i bytes and that at the front of what follows i. The measure is what is left of the length.
use lib.ListN.{length, drop}
use Prim.Native.Nat.{◌+◌, ◌-◌, ◌≤◌}
use mathlib.Core.Path.{◌≡◌}
use Rattle.text.specs.White.{leading}
use Rattle.text.proofs.white.leading_of.Given as goal

abbrev pub invariant-loop-i : goal.invariant-loop-i
invariant-loop-i l = (l.i ≤ length l.s) × (leading l.s ≡ l.i + leading (drop l.i l.s))

abbrev pub decreases-loop-i : goal.decreases-loop-i
decreases-loop-i l = length l.s - l.i
