-- `white::trailing_of`: the white space at the end is what was passed and that at the end of the first e bytes. The measure is e.
use lib.ListN.{length, take}
use Prim.Native.Nat.{◌+◌, ◌-◌, ◌≤◌}
use mathlib.Core.Path.{◌≡◌}
use Rattle.text.specs.White.{trailing}
use Rattle.text.proofs.white.trailing_of.Given as goal

abbrev pub invariant-loop-e : goal.invariant-loop-e
invariant-loop-e l = (l.e ≤ length l.s) × (trailing l.s ≡ length l.s - l.e + trailing (take l.e l.s))

abbrev pub decreases-loop-e : goal.decreases-loop-e
decreases-loop-e l = l.e
