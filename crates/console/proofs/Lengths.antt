-- How long what is printed can be.
use mathlib.Core.Path.{◌≡◌, refl}
use mathlib.Core.Bool.{Bool, true, false, cond}
use mathlib.Core.List.{List, [], ◌∷◌, ◌++◌}
use Prim.Native.Nat.{ℕ, zero, suc, ◌+◌, ◌*◌, ◌/◌, ◌%◌, ◌≤◌, ◌<◌}
use native.Mathlib.Omega.{arith}
use borrow.Author.Tests.{lt-ltb}
use lib.Dec.{ltb}
use lib.ListN.{length, get_or, length-append}
use Rattle.console.specs.Each.{each}
use Rattle.console.specs.Decimal.{figures, decimal, number_then}
use Rattle.console.specs.Address.{address_then}
use Rattle.console.specs.Hexadecimal.{hex_byte, hex_text}

-- the least number of d + 1 digits
abbrev pub tens : ℕ → ℕ
tens zero = 1
tens (suc d) = 10 * tens d

figures-most : (d k n : ℕ) → n < tens (suc d) → length (figures k n) ≤ suc d
unfolding figures
figures-most zero zero n h = omega arith
figures-most zero (suc k) n h = rw (lt-ltb n 10 (omega arith)) (omega arith)
figures-most (suc d) zero n h = omega arith
figures-most (suc d) (suc k) n h = go (ltb n 10) (figures-most d k (n / 10) (omega arith))
  where
    go : (t : Bool) → length (figures k (n / 10)) ≤ suc d → length (cond t ((48 + n) ∷ []) (figures k (n / 10) ++ ((48 + n % 10) ∷ []))) ≤ suc (suc d)
    go true r = omega arith
    go false r = omega (arith, length-append (figures k (n / 10)) ((48 + n % 10) ∷ []))

-- a number below 10 to the d + 1, and the byte that ends it
pub number-most : (d end n : ℕ) → n < tens (suc d) → length (number_then end n) ≤ suc (suc d)
unfolding number_then decimal
number-most d end n h = omega (arith, figures-most d n n h, length-append (figures n n) (end ∷ []))

-- several, each below 10 to the 20
pub data Numbers : List ℕ → Type 0 where
  none : Numbers []
  more : {n : ℕ} {s : List ℕ} → n < tens 20 → Numbers s → Numbers (n ∷ s)

pub numbers-most : {s : List ℕ} (end : ℕ) → Numbers s → length (each (number_then end) s) ≤ 21 * length s
unfolding each
numbers-most end none = omega arith
numbers-most end (more {n} {s} h r) = omega (arith, number-most 19 end n h, numbers-most end r, length-append (number_then end n) (each (number_then end) s))

pub octet : {r n : ℕ} → r ≡ n → r < 256 → n < 256
octet e h = omega (arith, e)

pub address-most : (end : ℕ) (s : List ℕ) → get_or s 0 0 < 256 → get_or s 1 0 < 256 → get_or s 2 0 < 256 → get_or s 3 0 < 256 → length (address_then end s) ≤ 16
unfolding address_then
address-most end s h₀ h₁ h₂ h₃ =
    let a = number_then 46 (get_or s 0 0) in
    let b = number_then 46 (get_or s 1 0) in
    let c = number_then 46 (get_or s 2 0) in
    let d = number_then end (get_or s 3 0) in
    omega (
      arith,
      length-append a (b ++ (c ++ d)),
      length-append b (c ++ d),
      length-append c d,
      number-most 2 46 (get_or s 0 0) (omega arith),
      number-most 2 46 (get_or s 1 0) (omega arith),
      number-most 2 46 (get_or s 2 0) (omega arith),
      number-most 2 end (get_or s 3 0) (omega arith),
    )

-- two digits a byte
pub hex_length : (s : List ℕ) → length (hex_text s) ≡ 2 * length s
unfolding hex_text each hex_byte
hex_length [] = refl
hex_length (b ∷ s) = omega (arith, hex_length s)
