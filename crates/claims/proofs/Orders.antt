-- The two orders of the engine's tables are strict and total: byte order of names, and links by index.
use mathlib.Core.Path.{◌≡◌, refl, sym, ◌∙◌, ap, ap₂, subst}
use mathlib.Core.Bool.{Bool, true, false, cond, true≢false, false≢true}
use mathlib.Core.List.{[], ◌∷◌}
use Prim.Native.Nat.{ℕ, ◌≤◌, ◌<◌}
use native.Mathlib.Omega.{arith}
use lib.Dec.{eqb, ltb}
use borrow.Author.Tests.{ltb-true, ltb-false, lt-ltb, le-ltb, eqb-true, eqb-false, eq-eqb}
use Rattle.text.specs.Bytes.{order, equal}
use Rattle.text.proofs.Comparing.{equal_is, equal-refl}
use Rattle.std.specs.declared.cmp.Ordering.TheVariants.{Less, Greater}
use Rattle.engine.specs.Held.{Text, is_less}
use Rattle.claims.proofs.Ascending.{StrictOrder}

-- ---- numbers
pub by_number : StrictOrder ltb eqb
by_number = record {
  irreflexive = λ x. le-ltb x x (omega arith);
  transitive = λ x y z p q. lt-ltb x z (omega (arith, ltb-true x y p, ltb-true y z q));
  total = λ x y p q. lt-ltb y x (strictly x y (ltb-false x y p) (eqb-false x y q));
  same-is = λ x y p. eqb-true x y p;
  same_refl = λ x. eq-eqb x x refl;
}
  where
    strictly : (x y : ℕ) → y ≤ x → (x ≡ y → ⊥) → y < x
    strictly x y p q = omega arith

-- ---- texts
abbrev less : Text → Text → Bool
less s t = is_less (order s t)

-- the first bytes decide, or, if they are equal, the rest
data Decided (a b : ℕ) (s t : Text) : Type 0 where
  by-head : a < b → Decided a b s t
  by-rest : a ≡ b → less s t ≡ true → Decided a b s t

decided : (a b : ℕ) (s t : Text) → less (a ∷ s) (b ∷ t) ≡ true → Decided a b s t
unfolding order
decided a b s t = go (ltb a b) (ltb b a) refl refl
  where
    go : (x y : Bool) → ltb a b ≡ x → ltb b a ≡ y → is_less (cond x Less (cond y Greater (order s t))) ≡ true → Decided a b s t
    go true y p q e = by-head (ltb-true a b p)
    go false true p q e = absurd (false≢true e)
    go false false p q e = by-rest (omega (arith, ltb-false a b p, ltb-false b a q)) e

less-head : (a b : ℕ) (s t : Text) → a < b → less (a ∷ s) (b ∷ t) ≡ true
unfolding order
less-head a b s t h = rw (lt-ltb a b h)

less-rest : (a : ℕ) (s t : Text) → less (a ∷ s) (a ∷ t) ≡ less s t
unfolding order
less-rest a s t = rw (le-ltb a a (omega arith))

less-irreflexive : (s : Text) → less s s ≡ false
unfolding order
less-irreflexive [] = refl
less-irreflexive (a ∷ s) = less-rest a s s ∙ less-irreflexive s

less-transitive : (s t u : Text) → less s t ≡ true → less t u ≡ true → less s u ≡ true
unfolding order
less-transitive [] [] u p q = absurd (false≢true p)
less-transitive [] (b ∷ t) [] p q = absurd (false≢true q)
less-transitive [] (b ∷ t) (c ∷ u) p q = refl
less-transitive (a ∷ s) [] u p q = absurd (false≢true p)
less-transitive (a ∷ s) (b ∷ t) [] p q = absurd (false≢true q)
less-transitive (a ∷ s) (b ∷ t) (c ∷ u) p q = go (decided a b s t p) (decided b c t u q) (less-transitive s t u)
  where
    go : Decided a b s t → Decided b c t u → (less s t ≡ true → less t u ≡ true → less s u ≡ true) → less (a ∷ s) (c ∷ u) ≡ true
    go (by-head i) (by-head j) h = less-head a c s u (omega arith)
    go (by-head i) (by-rest j y) h = less-head a c s u (omega arith)
    go (by-rest i x) (by-head j) h = less-head a c s u (omega arith)
    go (by-rest i x) (by-rest j y) h = subst (λ (d : ℕ). less (a ∷ s) (d ∷ u) ≡ true) (i ∙ j) (less-rest a s u ∙ h x y)

less-total : (s t : Text) → less s t ≡ false → (s ≡ t → ⊥) → less t s ≡ true
unfolding order
less-total [] [] p q = absurd (q refl)
less-total [] (b ∷ t) p q = absurd (true≢false p)
less-total (a ∷ s) [] p q = refl
less-total (a ∷ s) (b ∷ t) p q = go (ltb a b) (ltb b a) refl refl p (less-total s t)
  where
    go : (x y : Bool) → ltb a b ≡ x → ltb b a ≡ y → is_less (cond x Less (cond y Greater (order s t))) ≡ false →
        (less s t ≡ false → (s ≡ t → ⊥) → less t s ≡ true) → is_less (cond y Less (cond x Greater (order t s))) ≡ true
    go true y i j p h = absurd (true≢false p)
    go false true i j p h = refl
    go false false i j p h =
        h p (λ e. q (ap₂ {A = ℕ} {B = Text} ◌∷◌ (omega (arith, ltb-false a b i, ltb-false b a j)) e))

pub by_name_lem : StrictOrder less equal
by_name_lem = record {
  irreflexive = less-irreflexive;
  transitive = less-transitive;
  total = λ s t p q. less-total s t p (λ e. true≢false (sym (equal-refl s) ∙ ap (equal s) e ∙ q));
  same-is = equal_is;
  same_refl = equal-refl;
}
