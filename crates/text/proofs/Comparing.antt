-- Laws of comparing: what two texts that are equal are, and std's comparisons of slices.
use mathlib.Core.Path.{◌≡◌, refl, sym, ◌∙◌, ap}
use mathlib.Core.Bool.{Bool, true, false, cond, ◌&&◌, and-false, and-eq-true_iff, false≢true}
use mathlib.Core.List.{List, [], ◌∷◌}
use Prim.Native.Nat.{ℕ, zero, suc, ◌<◌}
use native.Mathlib.Omega.{arith}
use borrow.Author.Tests.{eqb-true, eqb-false, ltb-true, ltb-false, eq-eqb, ne_eqb, le-ltb}
use lib.Dec.{eqb, ltb}
use lib.ListN.{length, take}
use Rattle.text.specs.Bytes.{agree, upper, equal, equal_upper, order, starts_with}
use Rattle.std.specs.declared.cmp.Ordering.TheVariants.{Less, Equal, Greater}
use Rattle.std.proofs.lemmas.Bool.Decides.{nat_tests}
use Rattle.std.specs.Char.{to_ascii_uppercase}
use Rattle.std.specs.Bool.{MatchBool}
use Rattle.std.specs.List.{zip, AllWithin, HoldsAt}
use Rattle.std.specs.Cmp.Lexicographic.{pointwise, slice_cmp}
use Rattle.std.specs.Ordering.{nat_cmp, ordering_then}

pub agree-lengths : (f : ℕ → ℕ) (s t : List ℕ) → (length s ≡ length t → ⊥) → agree f s t ≡ false
unfolding agree
agree-lengths f [] [] h = absurd (h refl)
agree-lengths f [] (b ∷ t) h = refl
agree-lengths f (a ∷ s) [] h = refl
agree-lengths f (a ∷ s) (b ∷ t) h = ap (◌&&◌ (eqb (f a) b)) (agree-lengths f s t (λ e. h (ap suc e))) ∙ and-false (eqb (f a) b)

-- texts that are equal are the same, and the other way round
pub equal_is : (s t : List ℕ) → equal s t ≡ true → s ≡ t
unfolding agree
equal_is [] [] e = refl
equal_is [] (b ∷ t) e = absurd (false≢true e)
equal_is (a ∷ s) [] e = absurd (false≢true e)
equal_is (a ∷ s) (b ∷ t) e =
    let p = (and-eq-true_iff (eqb a b) (equal s t)).0 e in
    ap (λ (x : ℕ). x ∷ s) (eqb-true a b p.0) ∙ ap (◌∷◌ b) (equal_is s t p.1)

pub equal-refl : (s : List ℕ) → equal s s ≡ true
unfolding agree
equal-refl [] = refl
equal-refl (a ∷ s) = rw (eq-eqb a a refl) (equal-refl s)

pub order-refl : (s : List ℕ) → order s s ≡ Equal
unfolding order
order-refl [] = refl
order-refl (a ∷ s) = rw (le-ltb a a (omega arith)) (order-refl s)

-- std's comparisons of slices
pub same-pointwise : (s t : List ℕ) → pointwise eqb s t ≡ equal s t
unfolding agree
same-pointwise [] [] = refl
same-pointwise [] (b ∷ t) = refl
same-pointwise (a ∷ s) [] = refl
same-pointwise (a ∷ s) (b ∷ t) = ap (◌&&◌ (eqb a b)) (same-pointwise s t)

pub order-is : (s t : List ℕ) → slice_cmp nat_cmp s t ≡ order s t
unfolding order
order-is [] [] = refl
order-is [] (b ∷ t) = refl
order-is (a ∷ s) [] = refl
order-is (a ∷ s) (b ∷ t) = rw (order-is s t) (first_byte (ltb a b) (ltb b a) (eqb a b) refl refl refl)
  where
    first_byte : (p q r : Bool) → ltb a b ≡ p → ltb b a ≡ q → eqb a b ≡ r → ordering_then (cond p Less (cond r Equal Greater)) (order s t) ≡ cond p Less (cond q Greater (order s t))
    first_byte true q r e f g = refl
    first_byte false true true e f g = absurd (omega (arith, ltb-true b a f, eqb-true a b g))
    first_byte false true false e f g = refl
    first_byte false false true e f g = refl
    first_byte false false false e f g = absurd (eqb-false a b g (omega (arith, ltb-false a b e, ltb-false b a f)))

pub starts-is : (s p : List ℕ) → pointwise eqb p (take (length p) s) ≡ starts_with p s
unfolding starts_with
starts-is s [] = refl
starts-is [] (b ∷ p) = refl
starts-is (a ∷ s) (b ∷ p) = rw (starts-is s p) (ap (λ (t : Bool). t && starts_with p s) (turned (eqb b a) (eqb a b) refl refl))
  where
    turned : (p q : Bool) → eqb b a ≡ p → eqb a b ≡ q → p ≡ q
    turned true true e f = refl
    turned true false e f = absurd (eqb-false a b f (sym (eqb-true b a e)))
    turned false true e f = absurd (eqb-false b a e (sym (eqb-true a b f)))
    turned false false e f = refl

pub upper-is : (a : ℕ) → to_ascii_uppercase a ≡ upper a
unfolding upper
upper-is a = grind (arith, nat_tests)

-- two texts of one length, byte by byte
abbrev Capital : ℕ × ℕ → Type 0
Capital p = upper p.0 ≡ p.1

abbrev Other : ℕ × ℕ → Type 0
Other p = upper p.0 ≡ p.1 → ⊥

upper_same : (s t : List ℕ) → length s ≡ length t → AllWithin Capital (zip s t) 0 (length (zip s t)) → equal_upper s t ≡ true
unfolding agree
upper_same [] [] e h = refl
upper_same [] (b ∷ t) e h = absurd (omega arith)
upper_same (a ∷ s) [] e h = absurd (omega arith)
upper_same (a ∷ s) (b ∷ t) e h =
    rw (eq-eqb (upper a) b (h 0 (a, b) (omega arith) (omega arith))) (upper_same s t (omega arith) (λ k d g j. h (suc k) d (omega arith) (omega arith)))

upper_other : (s t : List ℕ) (k : ℕ) → length s ≡ length t → k < length (zip s t) → HoldsAt Other (zip s t) k → equal_upper s t ≡ false
unfolding agree
upper_other [] t k e g h = absurd (omega arith)
upper_other (a ∷ s) [] k e g h = absurd (omega arith)
upper_other (a ∷ s) (b ∷ t) zero e g h = rw (ne_eqb (upper a) b (h (a, b)))
upper_other (a ∷ s) (b ∷ t) (suc k) e g h = ap (◌&&◌ (eqb (upper a) b)) (upper_other s t k (omega arith) (omega arith) h) ∙ and-false (eqb (upper a) b)

pub upper_all : (s t : List ℕ) → length s ≡ length t → (r : Bool) → MatchBool r (AllWithin Capital (zip s t) 0 (length (zip s t))) ((k : ℕ) × (k < length (zip s t)) × HoldsAt Other (zip s t) k) → r ≡ equal_upper s t
upper_all s t e true h = sym (upper_same s t e h)
upper_all s t e false h = sym (upper_other s t h.0 e h.1 h.2)
