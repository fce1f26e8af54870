-- Laws of printed numbers: a number's digits are those of its tenth and its last; they have no leading zero and are read as the number.
use mathlib.Core.Path.{◌≡◌, refl, sym, ◌∙◌, ap}
use mathlib.Core.Bool.{Bool, true, false, cond, and-eq-true_iff}
use mathlib.Core.List.{List, [], ◌∷◌, ◌++◌}
use Prim.Native.Nat.{ℕ, zero, suc, ◌+◌, ◌-◌, ◌*◌, ◌/◌, ◌%◌, ◌≤◌, ◌<◌}
use native.Mathlib.Omega.{arith}
use borrow.Author.Tests.{lt-ltb, le-ltb, ltb-true, ltb-false, le-leb, leb-true, ne_eqb}
use lib.Dec.{ltb, leb}
use lib.ListN.{length, get_or, length-append, get_or-append}
use Rattle.text.specs.Range.{within, every}
use Rattle.text.specs.Number.{value, digits, more, unsigned, number}
use Rattle.std.proofs.Common.{Some}
use Rattle.console.specs.Decimal.{figures, decimal}

-- digits to spare change nothing
enough : (j k n : ℕ) → n ≤ j → n ≤ k → figures j n ≡ figures k n
unfolding figures
enough zero zero n h g = refl
enough zero (suc k) n h g = sym (ap (λ (t : Bool). cond t ((48 + n) ∷ []) (figures k (n / 10) ++ ((48 + n % 10) ∷ []))) (lt-ltb n 10 (omega arith)))
enough (suc j) zero n h g = ap (λ (t : Bool). cond t ((48 + n) ∷ []) (figures j (n / 10) ++ ((48 + n % 10) ∷ []))) (lt-ltb n 10 (omega arith))
enough (suc j) (suc k) n h g = go (ltb n 10) refl (λ e. enough j k (n / 10) (omega (arith, e)) (omega (arith, e)))
  where
    go : (t : Bool) → ltb n 10 ≡ t → (10 ≤ n → figures j (n / 10) ≡ figures k (n / 10))
        → cond t ((48 + n) ∷ []) (figures j (n / 10) ++ ((48 + n % 10) ∷ [])) ≡ cond t ((48 + n) ∷ []) (figures k (n / 10) ++ ((48 + n % 10) ∷ []))
    go true e r = refl
    go false e r = ap (λ (l : List ℕ). l ++ ((48 + n % 10) ∷ [])) (r (ltb-false n 10 e))

pub one-digit : (n : ℕ) → n < 10 → decimal n ≡ (48 + n % 10) ∷ []
unfolding decimal figures
one-digit zero h = refl
one-digit (suc n) h =
    ap (λ (t : Bool). cond t ((48 + suc n) ∷ []) (figures n (suc n / 10) ++ ((48 + suc n % 10) ∷ []))) (lt-ltb (suc n) 10 h)
    ∙ ap (λ (d : ℕ). (48 + d) ∷ []) (omega arith)

pub more-digits : (n : ℕ) → 10 ≤ n → decimal n ≡ decimal (n / 10) ++ ((48 + n % 10) ∷ [])
unfolding decimal figures
more-digits zero h = absurd (omega arith)
more-digits (suc n) h =
    ap (λ (t : Bool). cond t ((48 + suc n) ∷ []) (figures n (suc n / 10) ++ ((48 + suc n % 10) ∷ []))) (le-ltb (suc n) 10 h)
    ∙ ap (λ (l : List ℕ). l ++ ((48 + suc n % 10) ∷ [])) (enough n (suc n / 10) (suc n / 10) (omega arith) (omega arith))

-- a digit behind others
value-snoc : (a : ℕ) (s : List ℕ) (d : ℕ) → value a (s ++ (d ∷ [])) ≡ value a s * 10 + (d - 48)
unfolding value
value-snoc a [] d = refl
value-snoc a (b ∷ s) d = value-snoc (a * 10 + (b - 48)) s d

digits-snoc : (s : List ℕ) (d : ℕ) → digits s ≡ true → within 48 57 d ≡ true → digits (s ++ (d ∷ [])) ≡ true
unfolding every
digits-snoc [] d e g = rw g
digits-snoc (b ∷ s) d e g = let p = (and-eq-true_iff (within 48 57 b) (digits s)).0 e in rw p.0 (digits-snoc s d p.1 g)

is_digit : (d : ℕ) → d < 10 → within 48 57 (48 + d) ≡ true
is_digit d h = rw (le-leb 48 (48 + d) (omega arith), le-leb (48 + d) 57 (omega arith))

-- the digits of a number are digits, and their value is the number
figures-digits : (k n : ℕ) → n ≤ k → digits (figures k n) ≡ true
unfolding figures every
figures-digits zero n h = rw (is_digit n (omega arith))
figures-digits (suc k) n h = go (ltb n 10) refl (λ e. figures-digits k (n / 10) (omega (arith, e)))
  where
    go : (t : Bool) → ltb n 10 ≡ t → (10 ≤ n → digits (figures k (n / 10)) ≡ true) → digits (cond t ((48 + n) ∷ []) (figures k (n / 10) ++ ((48 + n % 10) ∷ []))) ≡ true
    go true e r = rw (is_digit n (ltb-true n 10 e))
    go false e r = digits-snoc (figures k (n / 10)) (48 + n % 10) (r (ltb-false n 10 e)) (is_digit (n % 10) (omega arith))

figures-value : (k n : ℕ) → n ≤ k → value 0 (figures k n) ≡ n
unfolding figures value
figures-value zero n h = omega arith
figures-value (suc k) n h = go (ltb n 10) refl (λ e. figures-value k (n / 10) (omega (arith, e)))
  where
    go : (t : Bool) → ltb n 10 ≡ t → (10 ≤ n → value 0 (figures k (n / 10)) ≡ n / 10) → value 0 (cond t ((48 + n) ∷ []) (figures k (n / 10) ++ ((48 + n % 10) ∷ []))) ≡ n
    go true e r = omega arith
    go false e r =
        let q : value 0 (figures k (n / 10)) ≡ n / 10 = r (ltb-false n 10 e) in
        value-snoc 0 (figures k (n / 10)) (48 + n % 10) ∙ omega (arith, q)

-- what is nothing but digits is read as their value
not-plus : (a : ℕ) (s : List ℕ) → digits (a ∷ s) ≡ true → a ≡ 43 → ⊥
unfolding every
not-plus a s e q =
    let p = ((and-eq-true_iff (within 48 57 a) (digits s)).0 e).0 in
    omega (arith, leb-true 48 a ((and-eq-true_iff (leb 48 a) (leb a 57)).0 p).0)

read-digits : (max : ℕ) (s : List ℕ) → 0 < length s → digits s ≡ true → value 0 s ≤ max → number max s ≡ Some (value 0 s)
unfolding number unsigned more
read-digits max [] h e g = absurd (omega arith)
read-digits max (a ∷ s) h e g = rw (ne_eqb a 43 (not-plus a s e), e, le-leb (value 0 (a ∷ s)) max g)

some-figures : (k n : ℕ) → 0 < length (figures k n)
unfolding figures
some-figures zero n = omega arith
some-figures (suc k) n = go (ltb n 10)
  where
    go : (t : Bool) → 0 < length (cond t ((48 + n) ∷ []) (figures k (n / 10) ++ ((48 + n % 10) ∷ [])))
    go true = omega arith
    go false = omega (arith, length-append (figures k (n / 10)) ((48 + n % 10) ∷ []))

-- a printed number is read as the number
pub reads-back : (max n : ℕ) → n ≤ max → number max (decimal n) ≡ Some n
unfolding decimal
reads-back max n h =
    let v : value 0 (figures n n) ≡ n = figures-value n n (omega arith) in
    read-digits max (figures n n) (some-figures n n) (figures-digits n n (omega arith)) (omega (arith, v)) ∙ ap Some v

-- and has no leading zero
figures-first : (k n : ℕ) → n ≤ k → 0 < n → get_or (figures k n) 0 0 ≡ 48 → ⊥
unfolding figures
figures-first zero n h g e = omega arith
figures-first (suc k) n h g e = go (ltb n 10) refl (λ q. figures-first k (n / 10) (omega (arith, q)) (omega (arith, q))) e
  where
    go : (t : Bool) → ltb n 10 ≡ t → (10 ≤ n → get_or (figures k (n / 10)) 0 0 ≡ 48 → ⊥) → get_or (cond t ((48 + n) ∷ []) (figures k (n / 10) ++ ((48 + n % 10) ∷ []))) 0 0 ≡ 48 → ⊥
    go true q r e = omega arith
    go false q r e = r (ltb-false n 10 q) (sym (get_or-append (figures k (n / 10)) ((48 + n % 10) ∷ []) 0 0 (some-figures k (n / 10))) ∙ e)

pub no_leading_zero : (n : ℕ) → 0 < n → get_or (decimal n) 0 0 ≡ 48 → ⊥
unfolding decimal
no_leading_zero n h e = figures-first n n (omega arith) h e
