-- A list cut to a size, and what a view makes of two lists.
use mathlib.Core.Path.{◌≡◌, refl, sym, ◌∙◌, ap}
use mathlib.Core.List.{List, [], ◌∷◌, ◌++◌, map}
use Prim.Native.Nat.{ℕ, min, ◌≤◌}
use native.Mathlib.Nat.{min-eq_left, min-eq_right}
use native.Mathlib.Decide.{dec_le}
use native.Mathlib.Omega.{arith}
use lib.ListN.{length, take, length-take}
use lib.Seq.{take-take, take_all, take-length}

-- `take` clamps as the lesser of two numbers does
take-least : {A : Type 0} (l : List A) (m : ℕ) → take (min m (length l)) l ≡ take m l
take-least l m = go (dec_le m (length l))
  where
    go : Dec (m ≤ length l) → take (min m (length l)) l ≡ take m l
    go (yes h) = ap (λ (k : ℕ). take k l) (min-eq_left h)
    go (no h) = ap (λ (k : ℕ). take k l) (min-eq_right {n = length l} {m = m} (omega arith)) ∙ take-length l ∙ sym (take_all m l (omega arith))

pub clamped : {A : Type 0} (l : List A) (m n : ℕ) → n ≡ min m (length l) → take n l ≡ take m l
clamped l m n e = ap (λ (i : ℕ). take i l) e ∙ take-least l m

-- the first n of the first m are those of the lesser
pub cut : (n m : ℕ) (l : List ℕ) → take (min n m) l ≡ take n (take m l)
cut n m l = go (dec_le n m)
  where
    go : Dec (n ≤ m) → take (min n m) l ≡ take n (take m l)
    go (yes h) = ap (λ (k : ℕ). take k l) (min-eq_left h) ∙ sym (take-take n m l h)
    go (no h) =
        ap (λ (k : ℕ). take k l) (min-eq_right {n = m} {m = n} (omega arith))
        ∙ sym (take_all n (take m l) (omega (arith, length-take m l)))

module _ {A B : Type 0} (view : A → B) where
  pub map-append : (l m : List A) → map view (l ++ m) ≡ map view l ++ map view m
  map-append [] m = refl
  map-append (a ∷ l) m = ap (λ (t : List B). view a ∷ t) (map-append l m)
