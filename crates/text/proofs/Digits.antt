-- Laws of numbers, over any largest number: the digits so far give n, and what is left decides.
use mathlib.Core.Path.{◌≡◌, refl, sym, ◌∙◌, ap}
use mathlib.Core.Bool.{Bool, true, false, cond, ◌&&◌, false≢true, and-false, and-eq-true_iff}
use mathlib.Core.List.{List, [], ◌∷◌}
use Prim.Native.Nat.{ℕ, ◌+◌, ◌-◌, ◌*◌, ◌≤◌, ◌<◌}
use native.Mathlib.Omega.{arith}
use native.Mathlib.Numerals.{add-one}
use borrow.Author.Tests.{eqb-true, le-leb, lt-leb, eq-eqb, ne_eqb}
use lib.ListN.{length, drop, get_or, take, drop_of_length-le}
use lib.Seq.{drop-cons}
use Rattle.std.specs.Cmp.Lexicographic.{pointwise}
use Rattle.text.specs.Range.{within, every}
use Rattle.text.specs.Number.{value, digits, more, unsigned, number}
use Rattle.std.specs.Prelude.{Option, Some, None, MatchOption}
use Rattle.std.specs.Option.{unwrap_or}
use Rattle.std.proofs.Common.{Bor}
use Rattle.std.proofs.lemmas.Option.{none-some, cond_some}
use Rattle.std.proofs.lemmas.Bool.{leb-true}
use lib.Dec.{eqb, leb}

-- further digits make no number less, so that one above max can be refused at once
grows : (n : ℕ) (s : List ℕ) → n ≤ value n s
unfolding value
grows n [] = omega arith
grows n (d ∷ s) = let r : n * 10 + (d - 48) ≤ value (n * 10 + (d - 48)) s = grows (n * 10 + (d - 48)) s in omega (arith, r)

above : (max n : ℕ) (s : List ℕ) → max < n → more max n s ≡ None
unfolding more
above max n s h = rw (lt-leb (value n s) max (omega (arith, grows n s)), and-false (digits s))

-- an empty text, and one that is not
pub no_digits : (max : ℕ) (s : List ℕ) → length s ≡ 0 → unsigned max s ≡ None
unfolding unsigned
no_digits max [] h = refl
no_digits max (d ∷ s) h = absurd (omega arith)

pub some-digits : (max : ℕ) (s : List ℕ) → (length s ≡ 0 → ⊥) → unsigned max s ≡ more max 0 s
unfolding unsigned
some-digits max [] h = absurd (h refl)
some-digits max (d ∷ s) h = refl

-- a turn of the loop
module _ (max n : ℕ) (s : List ℕ) (i : ℕ) (inside : i < length s) where
  pub digit-not : within 48 57 (get_or s i 0) ≡ false → more max n (drop i s) ≡ None
  unfolding more every
  digit-not e = rw (drop-cons s i 0, e)

  pub digit-turn : within 48 57 (get_or s i 0) ≡ true → more max n (drop i s) ≡ more max (n * 10 + (get_or s i 0 - 48)) (drop (i + 1) s)
  unfolding more every value
  digit-turn e = rw (add-one, drop-cons s i 0, e)

  pub digit-over : within 48 57 (get_or s i 0) ≡ true → max < n * 10 + (get_or s i 0 - 48) → more max n (drop i s) ≡ None
  digit-over e m = digit-turn e ∙ above max (n * 10 + (get_or s i 0 - 48)) (drop (i + 1) s) m

pub digits-end : (max n : ℕ) (s : List ℕ) (i : ℕ) → length s ≤ i → n ≤ max → more max n (drop i s) ≡ Some n
unfolding more every value
digits-end max n s i h k = rw (drop_of_length-le s h, le-leb n max k)

-- the sign
signed : (max : ℕ) (s : List ℕ) → pointwise eqb (take 1 s) (43 ∷ []) ≡ true → number max s ≡ unsigned max (drop 1 s)
unfolding number
signed max [] e = absurd (false≢true e)
signed max (a ∷ s) e =
    let q : a ≡ 43 = eqb-true a 43 ((and-eq-true_iff (eqb a 43) true).0 e).0 in
    rw (eq-eqb a 43 q) refl

not-signed : (max : ℕ) (s : List ℕ) → pointwise eqb (take 1 s) (43 ∷ []) ≡ false → number max s ≡ unsigned max s
unfolding number unsigned
not-signed max [] e = refl
not-signed max (a ∷ s) e = rw (ne_eqb a 43 (λ q. false≢true (sym e ∙ (and-eq-true_iff (eqb a 43) true).1 (eq-eqb a 43 q, refl)))) refl

-- what stands behind a sign, or the whole text
pub sign : (max : ℕ) (s : Bor (List ℕ)) (r : Option (Bor (List ℕ))) →
    MatchOption r (pointwise eqb (take 1 s.now) (43 ∷ []) ≡ false)
    (λ x. (pointwise eqb (take 1 s.now) (43 ∷ []) ≡ true) × (x.now ≡ drop 1 s.now) × (length x.now + 1 ≡ length s.now)) →
    number max s.now ≡ unsigned max (unwrap_or r s).now
sign max s None h = not-signed max s.now h
sign max s (Some x) h = signed max s.now h.0 ∙ ap (unsigned max) (sym h.1)

-- a number that is read is not above max
more-most : (max n : ℕ) (s : List ℕ) {v : ℕ} → more max n s ≡ Some v → v ≤ max
unfolding more
more-most max n s {v} e =
    let p = cond_some (digits s && leb (value n s) max) (value n s) v e in
    let q = (and-eq-true_iff (digits s) (leb (value n s) max)).0 p.0 in
    omega (arith, leb-true (value n s) max q.1, p.1)

unsigned-most : (max : ℕ) (s : List ℕ) {v : ℕ} → unsigned max s ≡ Some v → v ≤ max
unfolding unsigned
unsigned-most max [] {v} e = absurd (none-some v e)
unsigned-most max (d ∷ s) e = more-most max 0 (d ∷ s) e

pub number-most : (max : ℕ) (s : List ℕ) {v : ℕ} → number max s ≡ Some v → v ≤ max
unfolding number
number-most max [] {v} e = absurd (none-some v e)
number-most max (a ∷ s) {v} e = go (eqb a 43) e
  where
    go : (t : Bool) → cond t (unsigned max s) (unsigned max (a ∷ s)) ≡ Some v → v ≤ max
    go true f = unsigned-most max s f
    go false f = unsigned-most max (a ∷ s) f
