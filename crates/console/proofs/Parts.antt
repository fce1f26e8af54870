-- Laws of parts of a slice, as the code lends them.
use mathlib.Core.Path.{◌≡◌}
use mathlib.Core.List.{List}
use Prim.Native.Nat.{ℕ, ◌-◌}
use native.Mathlib.Omega.{arith}
use lib.ListN.{length, take, drop, length-drop}
use lib.Seq.{take_all}

-- `&s[at..]`
pub tail : (s : List ℕ) (at : ℕ) → take (length s - at) (drop at s) ≡ drop at s
tail s at = take_all (length s - at) (drop at s) (omega (arith, length-drop at s))
