-- Laws of finding: the first place of a test is i if the test holds there and fails before i.
use mathlib.Core.Path.{◌≡◌, refl, sym, ◌∙◌, ap}
use mathlib.Core.Bool.{Bool, true, false, cond, not, ◌&&◌, ◌||◌, and-eq-true_iff}
use mathlib.Core.List.{List, [], ◌∷◌}
use Prim.Native.Nat.{ℕ, zero, suc, ◌+◌, ◌-◌, ◌*◌, ◌≤◌, ◌<◌}
use native.Mathlib.Omega.{arith}
use borrow.Author.Tests.{eqb-true, eqb-false, eq-eqb, ne_eqb, lt-ltb, le-ltb, not-true}
use lib.Dec.{eqb, ltb}
use lib.ListN.{length, take, drop, get_or, drop_of_length-le, length-drop, length-take}
use lib.Seq.{drop-drop, get_or-drop, take-length, drop-length, take_all}
use Rattle.std.specs.Prelude.{Option, Some, None, IfSome, IfNone, MatchOption}
use Rattle.std.specs.List.{list_any, prefix_len}
use Rattle.text.specs.Range.{every}
use Rattle.text.proofs.Every.{behind_block}
use Rattle.text.specs.Bytes.{lacks, first_place, headed, index_of, last_index_of, index_of_text, starts_with}

shorter : (t : Bool) (n m : ℕ) → n ≤ m → cond t 0 (suc n) ≤ suc m
shorter true n m h = omega arith
shorter false n m h = omega arith

module _ (f : List ℕ → Bool) where
  pub place-le : (s : List ℕ) → first_place f s ≤ length s
  unfolding first_place
  place-le [] = omega arith
  place-le (a ∷ s) = shorter (f (a ∷ s)) (first_place f s) (length s) (place-le s)

  at_front : (s : List ℕ) → 0 < length s → f s ≡ true → first_place f s ≡ 0
  unfolding first_place
  at_front [] h e = absurd (omega arith)
  at_front (a ∷ s) h e = ap (λ (t : Bool). cond t 0 (suc (first_place f s))) e

  behind : (s : List ℕ) → 0 < length s → f s ≡ false → first_place f s ≡ suc (first_place f (drop 1 s))
  unfolding first_place
  behind [] h e = absurd (omega arith)
  behind (a ∷ s) h e = ap (λ (t : Bool). cond t 0 (suc (first_place f s))) e

  -- a turn of a loop over places, as it stops, goes on and ends
  module _ (s : List ℕ) (i : ℕ) where
    pub place_here : i < length s → f (drop i s) ≡ true → first_place f s ≡ i + first_place f (drop i s) → first_place f s ≡ i
    place_here h e p =
        let q : first_place f (drop i s) ≡ 0 = at_front (drop i s) (omega (arith, length-drop i s)) e in
        omega (arith, p, q)

    pub place-next : i < length s → f (drop i s) ≡ false → first_place f s ≡ i + first_place f (drop i s) → first_place f s ≡ i + 1 + first_place f (drop (i + 1) s)
    place-next h e p =
        let q : first_place f (drop i s) ≡ suc (first_place f (drop 1 (drop i s))) = behind (drop i s) (omega (arith, length-drop i s)) e in
        let r : first_place f (drop 1 (drop i s)) ≡ first_place f (drop (i + 1) s) = ap (first_place f) (drop-drop 1 i s) in
        omega (arith, p, q, r)

    pub place_none : length s ≤ i → first_place f s ≡ i + first_place f (drop i s) → first_place f s ≡ i
    unfolding first_place
    place_none h p =
        let q : first_place f (drop i s) ≡ 0 = ap (first_place f) (drop_of_length-le s h) in
        omega (arith, p, q)

-- the byte at place i is the first of what follows
first_of : (s : List ℕ) (i : ℕ) → get_or (drop i s) 0 0 ≡ get_or s i 0
first_of s i = get_or-drop i s 0 0 ∙ ap (λ (k : ℕ). get_or s k 0) (omega arith)

pub headed-is : (s : List ℕ) (i b : ℕ) → get_or s i 0 ≡ b → headed b (drop i s) ≡ true
headed-is s i b e = eq-eqb (get_or (drop i s) 0 0) b (first_of s i ∙ e)

pub headed-not : (s : List ℕ) (i b : ℕ) → (get_or s i 0 ≡ b → ⊥) → headed b (drop i s) ≡ false
headed-not s i b e = ne_eqb (get_or (drop i s) 0 0) b (λ q. e (sym (first_of s i) ∙ q))

pub index_of-le : (b : ℕ) (s : List ℕ) → index_of b s ≤ length s
unfolding index_of
index_of-le b s = place-le (headed b) s

-- a front without b is passed as a whole
pub lacks-front : (b k : ℕ) (s : List ℕ) → k ≤ length s → lacks b (take k s) ≡ true → index_of b s ≡ k + index_of b (drop k s)
unfolding every index_of first_place
lacks-front b zero s h e = omega arith
lacks-front b (suc k) [] h e = absurd (omega arith)
lacks-front b (suc k) (a ∷ s) h e =
    let p = (and-eq-true_iff (not (eqb a b)) (lacks b (take k s))).0 e in
    let q : index_of b s ≡ k + index_of b (drop k s) = lacks-front b k s (omega arith) p.1 in
    ap (λ (t : Bool). cond t 0 (suc (index_of b s))) (not-true (eqb a b) p.0) ∙ omega (arith, q)

pub lacks-place : (b : ℕ) (s : List ℕ) → lacks b s ≡ true → index_of b s ≡ length s
unfolding index_of first_place
lacks-place b s e =
    let q : index_of b s ≡ length s + index_of b (drop (length s) s) = lacks-front b (length s) s (omega arith) (ap (lacks b) (take-length s) ∙ e) in
    let r : index_of b (drop (length s) s) ≡ 0 = ap (index_of b) (drop-length s) in
    omega (arith, q, r)

-- b stands at the first place of b
found-step : (a b : ℕ) (s : List ℕ) (t : Bool) → eqb a b ≡ t → (first_place (headed b) s < length s → get_or s (first_place (headed b) s) 0 ≡ b)
    → cond t 0 (suc (first_place (headed b) s)) < suc (length s) → get_or (a ∷ s) (cond t 0 (suc (first_place (headed b) s))) 0 ≡ b
found-step a b s true e k h = eqb-true a b e
found-step a b s false e k h = k (omega arith)

found : (b : ℕ) (s : List ℕ) → first_place (headed b) s < length s → get_or s (first_place (headed b) s) 0 ≡ b
unfolding first_place
found b [] h = absurd (omega arith)
found b (a ∷ s) h = found-step a b s (eqb a b) refl (found b s) h

pub index_of-found : (b : ℕ) (s : List ℕ) → index_of b s < length s → get_or s (index_of b s) 0 ≡ b
unfolding index_of
index_of-found b s h = found b s h

-- and nowhere before it
before-step : (a b : ℕ) (s : List ℕ) (i : ℕ) (t : Bool) → eqb a b ≡ t → ((j : ℕ) → j < first_place (headed b) s → get_or s j 0 ≡ b → ⊥)
    → i < cond t 0 (suc (first_place (headed b) s)) → get_or (a ∷ s) i 0 ≡ b → ⊥
before-step a b s i true e k h q = omega arith
before-step a b s zero false e k h q = eqb-false a b e q
before-step a b s (suc i) false e k h q = k i (omega arith) q

nowhere-before : (b : ℕ) (s : List ℕ) (i : ℕ) → i < first_place (headed b) s → get_or s i 0 ≡ b → ⊥
unfolding first_place
nowhere-before b [] i h q = omega arith
nowhere-before b (a ∷ s) i h q = before-step a b s i (eqb a b) refl (nowhere-before b s) h q

pub index_of-before : (b : ℕ) (s : List ℕ) (i : ℕ) → i < index_of b s → get_or s i 0 ≡ b → ⊥
unfolding index_of
index_of-before b s i h q = nowhere-before b s i h q

-- the last place
pub last_index_of-none : (b : ℕ) (s : List ℕ) → ((k : ℕ) → 0 ≤ k → k < length s → get_or s k 0 ≡ b → ⊥) → last_index_of b s ≡ length s
unfolding last_index_of
last_index_of-none b [] h = refl
last_index_of-none b (a ∷ s) h =
    let e : last_index_of b s ≡ length s = last_index_of-none b s (λ k g j q. h (suc k) (omega arith) (omega arith) q) in
    let t : ltb (last_index_of b s) (length s) ≡ false = le-ltb (last_index_of b s) (length s) (omega (arith, e)) in
    rw (t, ne_eqb a b (h 0 (omega arith) (omega arith)))

pub last_index_of-is : (b : ℕ) (s : List ℕ) (i : ℕ) → i < length s → get_or s i 0 ≡ b → ((k : ℕ) → suc i ≤ k → k < length s → get_or s k 0 ≡ b → ⊥) → last_index_of b s ≡ i
unfolding last_index_of
last_index_of-is b [] i h e n = absurd (omega arith)
last_index_of-is b (a ∷ s) zero h e n =
    let q : last_index_of b s ≡ length s = last_index_of-none b s (λ k g j r. n (suc k) (omega arith) (omega arith) r) in
    let t : ltb (last_index_of b s) (length s) ≡ false = le-ltb (last_index_of b s) (length s) (omega (arith, q)) in
    rw (t, eq-eqb a b e)
last_index_of-is b (a ∷ s) (suc i) h e n =
    let q : last_index_of b s ≡ i = last_index_of-is b s i (omega arith) e (λ k g j r. n (suc k) (omega arith) (omega arith) r) in
    let t : ltb (last_index_of b s) (length s) ≡ true = lt-ltb (last_index_of b s) (length s) (omega (arith, q)) in
    rw (t, q)

pub last_index_of-le : (b : ℕ) (s : List ℕ) → last_index_of b s ≤ length s
unfolding last_index_of
last_index_of-le b [] = omega arith
last_index_of-le b (a ∷ s) = go (ltb (last_index_of b s) (length s)) (eqb a b) (last_index_of-le b s)
  where
    go : (t u : Bool) → last_index_of b s ≤ length s → cond t (suc (last_index_of b s)) (cond u 0 (suc (length s))) ≤ suc (length s)
    go true u h = omega arith
    go false true h = omega arith
    go false false h = omega arith

-- std's searches of slices
pub lacks-is : (b : ℕ) (s : List ℕ) → not (list_any (λ (a : ℕ). eqb a b) s) ≡ lacks b s
unfolding every
lacks-is b [] = refl
lacks-is b (a ∷ s) = rw (← lacks-is b s) (go (eqb a b))
  where
    go : (t : Bool) → not (t || list_any (λ (x : ℕ). eqb x b) s) ≡ (not t && not (list_any (λ (x : ℕ). eqb x b) s))
    go true = refl
    go false = refl

all_from : (s : List ℕ) (i : ℕ) → take (length s - i) (drop i s) ≡ drop i s
all_from s i = take_all (length s - i) (drop i s) (omega (arith, length-drop i s))

module _ (f : List ℕ → Bool) where
  pub place-is : (s : List ℕ) (i : ℕ) → i < length s → f (drop i s) ≡ true → ((k : ℕ) → k < i → f (drop k s) ≡ false) → first_place f s ≡ i
  unfolding first_place
  place-is [] i h e n = absurd (omega arith)
  place-is (a ∷ s) zero h e n = rw e
  place-is (a ∷ s) (suc i) h e n = rw (n 0 (omega arith)) (ap suc (place-is s i (omega arith) e (λ k g. n (suc k) (omega arith))))

  pub no_place : (s : List ℕ) → ((k : ℕ) → k < length s → f (drop k s) ≡ false) → first_place f s ≡ length s
  unfolding first_place
  no_place [] n = refl
  no_place (a ∷ s) n = rw (n 0 (omega arith)) (ap suc (no_place s (λ k g. n (suc k) (omega arith))))

-- how many bytes come before b
pub prefix-is : (b : ℕ) (s : List ℕ) → prefix_len (λ (x : ℕ). not (eqb x b)) s ≡ index_of b s
unfolding index_of first_place
prefix-is b [] = refl
prefix-is b (a ∷ s) = rw (prefix-is b s) (go (eqb a b))
  where
    go : (t : Bool) → cond (not t) (1 + index_of b s) 0 ≡ cond t 0 (suc (index_of b s))
    go true = refl
    go false = omega arith

-- a front of k bytes that has b decides; one that has none is passed as a whole
index_of-front : (b k : ℕ) (s : List ℕ) → index_of b (take k s) < length (take k s) → index_of b s ≡ index_of b (take k s)
unfolding index_of first_place
index_of-front b zero s h = absurd (omega arith)
index_of-front b (suc k) [] h = absurd (omega arith)
index_of-front b (suc k) (a ∷ s) h = go (eqb a b) (index_of-front b k s) h
  where
    go : (t : Bool) → (index_of b (take k s) < length (take k s) → index_of b s ≡ index_of b (take k s)) → cond t 0 (suc (index_of b (take k s))) < suc (length (take k s))
        → cond t 0 (suc (index_of b s)) ≡ cond t 0 (suc (index_of b (take k s)))
    go true e g = refl
    go false e g = ap suc (e (omega arith))

index_of-behind : (b k : ℕ) (s : List ℕ) → k ≤ length s → k ≤ index_of b (take k s) → index_of b s ≡ k + index_of b (drop k s)
unfolding index_of first_place
index_of-behind b zero s g h = omega arith
index_of-behind b (suc k) [] g h = absurd (omega arith)
index_of-behind b (suc k) (a ∷ s) g h = go (eqb a b) (index_of-behind b k s (omega arith)) h
  where
    go : (t : Bool) → (k ≤ index_of b (take k s) → index_of b s ≡ k + index_of b (drop k s)) → suc k ≤ cond t 0 (suc (index_of b (take k s)))
        → cond t 0 (suc (index_of b s)) ≡ suc k + index_of b (drop k s)
    go true e g = absurd (omega arith)
    go false e g = omega (arith, e (omega arith))

-- block i of those of 16 bytes, where none before it has b
module _ (b : ℕ) (s : List ℕ) (i : ℕ) {block : List ℕ} (at : block ≡ take 16 (drop (16 * i) s)) (inside : 16 * (i + 1) ≤ length s) (before : index_of b s ≡ 16 * i + index_of b (drop (16 * i) s)) where
  pub block-found : {k : ℕ} → k ≡ index_of b block → k < 16 → 16 * i + k ≡ index_of b s
  block-found e h =
      let q : index_of b (drop (16 * i) s) ≡ index_of b (take 16 (drop (16 * i) s)) =
      index_of-front b 16 (drop (16 * i) s) (omega (arith, e, ap (index_of b) at, length-take 16 (drop (16 * i) s), length-drop (16 * i) s)) in
      omega (arith, before, q, e, ap (index_of b) at)

  pub block-passed : {k : ℕ} → k ≡ index_of b block → 16 ≤ k → index_of b s ≡ 16 * (i + 1) + index_of b (drop (16 * (i + 1)) s)
  block-passed e h =
      let q : index_of b (drop (16 * i) s) ≡ 16 + index_of b (drop 16 (drop (16 * i) s)) =
      index_of-behind b 16 (drop (16 * i) s) (omega (arith, length-drop (16 * i) s)) (omega (arith, e, ap (index_of b) at)) in
      omega (arith, before, q, ap (index_of b) (behind_block s i))

pub index_of_text-at : (p s : List ℕ) (r : Option ℕ)
    → MatchOption r ((k : ℕ) → 0 ≤ k → k < length s → starts_with p (take (length s - k) (drop k s)) ≡ false)
    (λ i. (0 ≤ i) × (i < length s) × (starts_with p (take (length s - i) (drop i s)) ≡ true) × ((k : ℕ) → 0 ≤ k → k < i → starts_with p (take (length s - k) (drop k s)) ≡ false))
    → record { some : IfSome r (λ i. (i ≡ index_of_text p s) × (i < length s)); none : IfNone r (index_of_text p s ≡ length s) }
unfolding index_of_text
index_of_text-at p s None h = record { some = tt; none = no_place (starts_with p) s (λ k g. ap (starts_with p) (sym (all_from s k)) ∙ h k (omega arith) g) }
index_of_text-at p s (Some i) h =
    record {
      some = (sym (place-is (starts_with p) s i h.1 (ap (starts_with p) (sym (all_from s i)) ∙ h.2) (λ k g. ap (starts_with p) (sym (all_from s k)) ∙ h.3 k (omega arith) g)), h.1);
      none = tt;
    }
