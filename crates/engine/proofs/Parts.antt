-- Small laws that several subjects share: a choice by a test, two tests that both hold, and the part of a slice that is lent from a place on.
use Prim.Native.Nat.{ℕ, ◌-◌}
use mathlib.Core.Path.{◌≡◌}
use mathlib.Core.Bool.{Bool, true, false, cond, ◌&&◌, and-eq-true_iff}
use mathlib.Core.List.{List}
use native.Mathlib.Omega.{arith}
use lib.ListN.{length, take, drop, length-drop}
use lib.Seq.{take_all}

-- what holds of both choices holds of the one taken
pub by_cond : {A : Type 0} (P : A → Type 0) (t : Bool) {x y : A} → P x → P y → P (cond t x y)
by_cond P true p q = p
by_cond P false p q = q

pub both_true : (a b : Bool) → (a && b) ≡ true → (a ≡ true) × (b ≡ true)
both_true a b e = (and-eq-true_iff a b).0 e

-- `&s[n..]`
pub rest_from : (s : List ℕ) (n : ℕ) → take (length s - n) (drop n s) ≡ drop n s
rest_from s n = take_all (length s - n) (drop n s) (omega (arith, length-drop n s))
