-- A rule that holds of every number of a span, shown by one computed test.
use mathlib.Core.Path.{◌≡◌, refl, subst}
use mathlib.Core.Bool.{Bool, true, false, ◌&&◌}
use Prim.Native.Nat.{ℕ, zero, suc, ◌+◌, ◌≤◌, ◌<◌}
use native.Mathlib.Omega.{arith}
use borrow.Author.Tests.{eqb-true, eqb-false}
use lib.Dec.{T, eqb}

pub and_left : (a b : Bool) → T (a && b) → T a
and_left true b t = tt
and_left false b t = t

pub and_right : (a b : Bool) → T (a && b) → T b
and_right true b t = t
and_right false b t = absurd t

pub is_true : (b : Bool) → T b → b ≡ true
is_true true t = refl
is_true false t = absurd t

-- f at `low` and the numbers after it, n in all
abbrev pub all : (ℕ → Bool) → ℕ → ℕ → Bool
all f low zero = true
all f low (suc n) = f low && all f (suc low) n

pub span : (f : ℕ → Bool) (n low : ℕ) → T (all f low n) → (b : ℕ) → low ≤ b → b < low + n → T (f b)
span f zero low t b h g = absurd (omega arith)
span f (suc n) low t b h g =
    go (eqb low b) refl (λ d. span f n (suc low) (and_right (f low) (all f (suc low) n) t) b (omega (arith, d)) (omega arith))
  where
    go : (e : Bool) → eqb low b ≡ e → ((low ≡ b → ⊥) → T (f b)) → T (f b)
    go true e k = subst (λ (k : ℕ). T (f k)) (eqb-true low b e) (and_left (f low) (all f (suc low) n) t)
    go false e k = k (eqb-false low b e)
