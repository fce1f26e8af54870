-- A single flag is a power of two, and is set where the quotient by it is odd.
use Prim.Native.Nat.{ℕ, zero, suc, ◌*◌, ◌+◌, ◌-◌, ◌/◌, ◌%◌, ◌^◌, ◌<◌}
use mathlib.Core.Path.{◌≡◌, ap, sym, ◌∙◌}
use native.Mathlib.Omega.{arith}
use lib.Dec.{eqb}
use lib.Bits.{bit_and, and_high}
use lib.Pow.{pow_pos, high_ones}
use borrow.Author.Tests.{eq-eqb, ne_eqb}
use Rattle.engine.specs.Flags.{contains}

-- one bit at the place of p
bit_is : (q p : ℕ) → q < 2 → 0 < p → eqb (q * p) p ≡ eqb q 1
bit_is zero p h pos = ne_eqb (0 * p) p (λ e. omega arith)
bit_is (suc zero) p h pos = eq-eqb (1 * p) p (omega arith)
bit_is (suc (suc q)) p h pos = absurd (omega arith)

pub flag_set : (flags k : ℕ) → contains flags (2 ^ k) ≡ eqb (flags / 2 ^ k % 2) 1
unfolding contains
flag_set flags k =
    let ones : 2 ^ (1 + k) - 2 ^ k ≡ 2 ^ k = omega (arith, high_ones 1 k) in
    ap (λ (n : ℕ). eqb n (2 ^ k)) (ap (λ (n : ℕ). bit_and flags n) (sym ones) ∙ and_high flags 1 k)
    ∙ bit_is (flags / 2 ^ k % 2) (2 ^ k) (omega arith) (pow_pos k)
