-- Laws of `flat`: what a run over a list makes, part by part, and how long it is.
use mathlib.Core.Path.{◌≡◌, refl, sym, ◌∙◌, ap}
use mathlib.Core.List.{List, [], ◌∷◌, ◌++◌, map, append_assoc, append-nil}
use Prim.Native.Nat.{ℕ, ◌+◌, ◌*◌, ◌≤◌, ◌<◌}
use native.Mathlib.Omega.{arith}
use native.Mathlib.Nat.{mul-suc}
use native.Mathlib.Numerals.{add-one}
use lib.ListN.{length, take, drop, get_or, length-append, take-append-drop}
use lib.Seq.{take-suc, take-take}
use Rattle.engine.specs.Records.{flat}

module _ {A B : Type 0} (f : A → List B) where
  pub flat_append : (xs ys : List A) → flat f (xs ++ ys) ≡ flat f xs ++ flat f ys
  unfolding flat
  flat_append [] ys = refl
  flat_append (x ∷ xs) ys = ap (λ (l : List B). f x ++ l) (flat_append xs ys) ∙ sym (append_assoc (f x) (flat f xs) (flat f ys))

  -- the first parts, one more
  pub flat-more : (l : List A) (i : ℕ) (d : A) → i < length l → flat f (take (i + 1) l) ≡ flat f (take i l) ++ f (get_or l i d)
  unfolding flat
  flat-more l i d h =
      ap (λ (j : ℕ). flat f (take j l)) (add-one i) ∙ ap (flat f) (take-suc l i d h) ∙ flat_append (take i l) (get_or l i d ∷ [])
      ∙ ap (λ (x : List B). flat f (take i l) ++ x) (append-nil (f (get_or l i d)))

  -- a part of the list makes no more than the whole
  pub flat-part : (j : ℕ) (l : List A) → length (flat f (take j l)) ≤ length (flat f l)
  flat-part j l =
      omega (
        arith,
        length-append (flat f (take j l)) (flat f (drop j l)),
        ap (λ (x : List B). length x) (flat_append (take j l) (drop j l)),
        ap (λ (x : List A). length (flat f x)) (take-append-drop j l),
      )

  pub flat-fewer : (l : List A) (m n : ℕ) → m ≤ n → length (flat f (take m l)) ≤ length (flat f (take n l))
  flat-fewer l m n h = omega (arith, flat-part m (take n l), ap (λ (x : List A). length (flat f x)) (take-take m n l h))

  -- no part is longer than m
  pub flat-most : (m : ℕ) → ((a : A) → length (f a) ≤ m) → (l : List A) → length (flat f l) ≤ m * length l
  unfolding flat
  flat-most m h [] = omega arith
  flat-most m h (a ∷ l) = omega (arith, length-append (f a) (flat f l), h a, flat-most m h l, mul-suc m (length l))

  -- each part is m long
  pub flat-each : (m : ℕ) → ((a : A) → length (f a) ≡ m) → (l : List A) → length (flat f l) ≡ m * length l
  unfolding flat
  flat-each m h [] = omega arith
  flat-each m h (a ∷ l) = length-append (f a) (flat f l) ∙ omega (arith, h a, flat-each m h l, mul-suc m (length l))

-- one for each element
pub flat-one : {A B : Type 0} (f : A → B) (l : List A) → flat (λ a. f a ∷ []) l ≡ map f l
unfolding flat
flat-one f [] = refl
flat-one {B = B} f (a ∷ l) = ap (λ (x : List B). f a ∷ x) (flat-one f l)
