-- Laws of a target that was looked at once: what it wants is what `target_match` says. A later version has its last colon at the target's place, since what
-- stands behind it is a number, which has no colon.
use Prim.Native.Nat.{ℕ, zero, suc, ◌+◌, ◌-◌, ◌≤◌, ◌<◌}
use mathlib.Core.Path.{◌≡◌, refl, ap, sym, ◌∙◌}
use mathlib.Core.Bool.{Bool, true, false, cond, ◌&&◌, ◌||◌, false≢true}
use mathlib.Core.List.{List, [], ◌∷◌}
use native.Mathlib.Omega.{arith}
use lib.Dec.{leb, ltb, eqb}
use lib.ListN.{length, take, drop, get_or, length-drop}
use lib.Seq.{length-take-le, get_or-drop}
use borrow.Author.Tests.{lt-ltb, le-ltb, le-leb, eq-eqb, ne_eqb, ltb-true, eqb-true, leb-true}
use Rattle.text.specs.Range.{within, every}
use Rattle.text.specs.Bytes.{equal}
use Rattle.text.specs.Number.{number, unsigned, more, value, digits, max64}
use Rattle.std.specs.Prelude.{Option, Some, None}
use Rattle.text.proofs.Comparing.{equal_is, equal-refl}
use Rattle.text.proofs.Finding.{last_index_of-is}
use Rattle.engine.specs.Target.{ssdp_all, colon, last_colon, has_colon, base_part, version, at_least, version_match, target_match}
use Rattle.engine.specs.Wanted.{versioned, wanted_of, later_in}
use Rattle.engine.specs.declared.wanted.Wanted.{Wanted}
use Rattle.engine.specs.declared.wanted.Wanted.TheVariants.{All, Same, Version}
use Rattle.engine.proofs.Parts.{both_true, rest_from}
use Rattle.engine.proofs.Matching.{last_found}

-- ---- what is found
module _ (s : List ℕ) where
  pub found_all : equal s ssdp_all ≡ true → All ≡ wanted_of s
  unfolding wanted_of
  found_all e = rw e

  pub found_none : equal s ssdp_all ≡ false → last_colon s ≡ length s → Same ≡ wanted_of s
  unfolding wanted_of
  found_none e h = let n : ltb (last_colon s) (length s) ≡ false = le-ltb (last_colon s) (length s) (omega (arith, h)) in rw (e, n)

  pub found_number : (i : ℕ) (n : Option ℕ) → equal s ssdp_all ≡ false → i ≡ last_colon s → i < length s → n ≡ number max64 (take (length s - (i + 1)) (drop (i + 1) s))
      → versioned i n ≡ wanted_of s
  unfolding wanted_of
  found_number i n e p h q =
      let m : ltb (last_colon s) (length s) ≡ true = lt-ltb (last_colon s) (length s) (omega (arith, p)) in
      rw (e, m, q, rest_from s (i + 1), p)

-- every type is wanted by `ssdp:all` alone
abbrev pub every_type : Wanted → Bool
every_type All = true
every_type Same = false
every_type (Version i n) = false

pub not-every : (w : Wanted) → (w ≡ All → ⊥) → false ≡ every_type w
not-every All h = absurd (h refl)
not-every Same h = refl
not-every (Version i n) h = refl

pub every-type : {w : Wanted} (s : List ℕ) → w ≡ wanted_of s → every_type w ≡ equal s ssdp_all
unfolding wanted_of
every-type s e = ap every_type e ∙ go (equal s ssdp_all) (has_colon s) (version s)
  where
    go : (all colons : Bool) (n : Option ℕ) → every_type (cond all All (cond colons (versioned (last_colon s) n) Same)) ≡ all
    go true b n = refl
    go false true (Some n) = refl
    go false true None = refl
    go false false n = refl

-- ---- the tests of a later version
module _ (s : List ℕ) (i n : ℕ) (t : List ℕ) where
  pub too_short : length t ≤ i → false ≡ later_in s i n t
  unfolding later_in
  too_short h = rw (le-ltb i (length t) h)

  pub no_colon-there : i < length t → (get_or t i 0 ≡ colon → ⊥) → false ≡ later_in s i n t
  unfolding later_in
  no_colon-there h e = rw (lt-ltb i (length t) h, ne_eqb (get_or t i 0) colon e)

  pub other-front : i < length t → get_or t i 0 ≡ colon → equal (take i s) (take i t) ≡ false → false ≡ later_in s i n t
  unfolding later_in
  other-front h e f = rw (lt-ltb i (length t) h, eq-eqb (get_or t i 0) colon e, f)

  pub later-number : (o : Option ℕ) → i < length t → get_or t i 0 ≡ colon → equal (take i s) (take i t) ≡ true → o ≡ number max64 (take (length t - (i + 1)) (drop (i + 1) t))
      → at_least (Some n) o ≡ later_in s i n t
  unfolding later_in
  later-number o h e f q = rw (lt-ltb i (length t) h, eq-eqb (get_or t i 0) colon e, f, q, rest_from t (i + 1))

-- ---- a number has no colon
never : {A : Type 0} {v : ℕ} → None ≡ Some v → A
never {A} {v} e = absurd (let z : ◌≡◌ {A = ℕ} 0 1 = cc in omega arith)

digits-at : (s : List ℕ) (k : ℕ) → digits s ≡ true → k < length s → get_or s k 0 < colon
unfolding every
digits-at [] k e h = absurd (omega arith)
digits-at (d ∷ s) zero e h =
    let a = both_true (leb 48 d) (leb d 57) (both_true (within 48 57 d) (digits s) e).0 in
    let b = leb-true d 57 a.1 in
    omega arith
digits-at (d ∷ s) (suc k) e h = digits-at s k (both_true (within 48 57 d) (digits s) e).1 (omega arith)

unsigned-at : (max : ℕ) (s : List ℕ) {v : ℕ} → unsigned max s ≡ Some v → (k : ℕ) → k < length s → get_or s k 0 < colon
unfolding unsigned more
unsigned-at max [] e k h = absurd (omega arith)
unsigned-at max (d ∷ s) {v} e k h = go (digits (d ∷ s)) (leb (value 0 (d ∷ s)) max) refl e
  where
    go : (a b : Bool) → digits (d ∷ s) ≡ a → cond (a && b) (Some (value 0 (d ∷ s))) None ≡ Some v → get_or (d ∷ s) k 0 < colon
    go true b q p = digits-at (d ∷ s) k q h
    go false b q p = never p

number-at : (max : ℕ) (s : List ℕ) {v : ℕ} → number max s ≡ Some v → (k : ℕ) → k < length s → get_or s k 0 < colon
unfolding number
number-at max [] e k h = absurd (omega arith)
number-at max (a ∷ s) {v} e k h = go (eqb a 43) refl e k h
  where
    go : (t : Bool) → eqb a 43 ≡ t → cond t (unsigned max s) (unsigned max (a ∷ s)) ≡ Some v → (k : ℕ) → k < suc (length s) → get_or (a ∷ s) k 0 < colon
    go true p q zero h = let b = eqb-true a 43 p in omega arith
    go true p q (suc k) h = unsigned-at max s q k (omega arith)
    go false p q k h = unsigned-at max (a ∷ s) q k h

-- so a colon before a number is the last
last-is : (t : List ℕ) (i : ℕ) {v : ℕ} → i < length t → get_or t i 0 ≡ colon → number max64 (drop (i + 1) t) ≡ Some v → last_colon t ≡ i
last-is t i h e p = last_index_of-is colon t i h e (λ k g j q. none k g j q)
  where
    none : (k : ℕ) → suc i ≤ k → k < length t → get_or t k 0 ≡ colon → ⊥
    none k g j q =
        let m = k - (i + 1) in
        let z : i + 1 + m ≡ k = omega arith in
        let b = number-at max64 (drop (i + 1) t) p m (omega (arith, length-drop (i + 1) t)) in
        omega (arith, get_or-drop (i + 1) t m 0, ap (λ (x : ℕ). get_or t x 0) z)

-- ---- what was found of a target with a number behind its last colon
pub record Versioned (s : List ℕ) (i n : ℕ) : Type 0 where
  pub other : equal s ssdp_all ≡ false
  pub place : i ≡ last_colon s
  pub within-it : i < length s
  pub number_is : version s ≡ Some n

-- all that a later version meets
record Later (s t : List ℕ) (i n : ℕ) : Type 0 where
  pub place : last_colon t ≡ i
  pub within-it : i < length t
  pub same : take i s ≡ take i t
  pub least : at_least (Some n) (number max64 (drop (i + 1) t)) ≡ true

both_ways : (a b : Bool) → (a ≡ true → b ≡ true) → (b ≡ true → a ≡ true) → a ≡ b
both_ways true b f g = sym (f refl)
both_ways false true f g = g refl
both_ways false false f g = refl

or_true : (a b : Bool) {A : Type 0} → (a || b) ≡ true → (a ≡ true → A) → (b ≡ true → A) → A
or_true true b e f g = f refl
or_true false b e f g = g e

module _ (s t : List ℕ) (i n : ℕ) (w : Versioned s i n) where
  later-is : later_in s i n t ≡ true → Later s t i n
  unfolding later_in
  later-is e =
      let a = both_true (ltb i (length t) && eqb (get_or t i 0) colon && equal (take i s) (take i t)) (at_least (Some n) (number max64 (drop (i + 1) t))) e in
      let b = both_true (ltb i (length t) && eqb (get_or t i 0) colon) (equal (take i s) (take i t)) a.0 in
      let c = both_true (ltb i (length t)) (eqb (get_or t i 0) colon) b.0 in
      let h = ltb-true i (length t) c.0 in
      record {
        place = go (number max64 (drop (i + 1) t)) refl a.1 h (eqb-true (get_or t i 0) colon c.1);
        within-it = h;
        same = equal_is (take i s) (take i t) b.1;
        least = a.1;
      }
    where
      go : (o : Option ℕ) → number max64 (drop (i + 1) t) ≡ o → at_least (Some n) o ≡ true → i < length t → get_or t i 0 ≡ colon → last_colon t ≡ i
      go (Some v) p q h e = last-is t i h e p
      go None p q h e = absurd (false≢true q)

  is_later : Later s t i n → later_in s i n t ≡ true
  unfolding later_in
  is_later l =
      let e : get_or t i 0 ≡ colon = ap (λ (k : ℕ). get_or t k 0) (sym l.place) ∙ last_found colon t (omega (arith, l.place)) in
      let f : equal (take i s) (take i t) ≡ true = ap (equal (take i s)) (sym l.same) ∙ equal-refl (take i s) in
      rw (lt-ltb i (length t) l.within-it, eq-eqb (get_or t i 0) colon e, f, l.least)

  version-is : Later s t i n → version_match s t ≡ true
  unfolding version_match
  version-is l =
      let a : ltb (last_colon s) (length s) ≡ true = lt-ltb (last_colon s) (length s) (omega (arith, w.place)) in
      let b : ltb (last_colon t) (length t) ≡ true = lt-ltb (last_colon t) (length t) (omega (arith, l.place)) in
      let f : equal (take i s) (take i t) ≡ true = ap (equal (take i s)) (sym l.same) ∙ equal-refl (take i s) in
      rw (a, b, w.number_is, sym w.place, l.place, f, l.least)

  is-version : version_match s t ≡ true → Later s t i n
  unfolding version_match
  is-version e =
      let a = both_true (has_colon s && has_colon t && equal (base_part s) (base_part t)) (at_least (version s) (version t)) e in
      let b = both_true (has_colon s && has_colon t) (equal (base_part s) (base_part t)) a.0 in
      let c = both_true (has_colon s) (has_colon t) b.0 in
      let j = last_colon t in
      let h : j < length t = ltb-true j (length t) c.1 in
      let same : take i s ≡ take j t = ap (λ (k : ℕ). take k s) w.place ∙ equal_is (base_part s) (base_part t) b.1 in
      let p : j ≡ i = sym (length-take-le j t (omega arith)) ∙ sym (ap length same) ∙ length-take-le i s (omega (arith, w.within-it)) in
      record {
        place = p;
        within-it = omega arith;
        same = same ∙ ap (λ (k : ℕ). take k t) p;
        least = ap (λ (k : ℕ). at_least (Some n) (number max64 (drop (k + 1) t))) (sym p) ∙ ap (λ (o : Option ℕ). at_least o (version t)) (sym w.number_is) ∙ a.1;
      }

  is_same : equal s t ≡ true → Later s t i n
  is_same e =
      let q : s ≡ t = equal_is s t e in
      let p : last_colon t ≡ i = sym (ap last_colon q) ∙ sym w.place in
      record {
        place = p;
        within-it = omega (arith, ap length q, w.within-it);
        same = ap (take i) q;
        least =
            ap (λ (k : ℕ). at_least (Some n) (number max64 (drop (k + 1) t))) (sym p) ∙ ap (λ (l : List ℕ). at_least (Some n) (version l)) (sym q)
            ∙ ap (at_least (Some n)) w.number_is ∙ le-leb n n (omega arith);
      }

  later-matches : later_in s i n t ≡ target_match s t
  unfolding target_match
  later-matches =
      both_ways (later_in s i n t) (target_match s t) (λ e. rw (w.other, version-is (later-is e)) (or_last (equal s t)))
      (λ e. or_true (equal s ssdp_all || equal s t) (version_match s t) e (λ f. is_later (is_same (rw w.other at f))) (λ f. is_later (is-version f)))
    where
      or_last : (b : Bool) → (b || true) ≡ true
      or_last true = refl
      or_last false = refl

-- ---- what a target wants, case by case
module _ (s t : List ℕ) where
  pub wants_all : All ≡ wanted_of s → true ≡ target_match s t
  unfolding wanted_of target_match
  wants_all e = go (equal s ssdp_all) (has_colon s) (version s) e
    where
      go : (a b : Bool) (n : Option ℕ) → All ≡ cond a All (cond b (versioned (last_colon s) n) Same) → true ≡ (a || equal s t || version_match s t)
      go true b n e = refl
      go false true (Some v) e = absurd (let z : ◌≡◌ {A = ℕ} 0 1 = cc in omega arith)
      go false true None e = absurd (let z : ◌≡◌ {A = ℕ} 0 1 = cc in omega arith)
      go false false n e = absurd (let z : ◌≡◌ {A = ℕ} 0 1 = cc in omega arith)

  pub wants_same : Same ≡ wanted_of s → equal s t ≡ target_match s t
  unfolding wanted_of target_match version_match
  wants_same e = go (equal s ssdp_all) (has_colon s) (version s) e
    where
      no_more : (a b : Bool) → a ≡ (a || (b && false))
      no_more true b = refl
      no_more false true = refl
      no_more false false = refl

      go : (a b : Bool) (n : Option ℕ) → Same ≡ cond a All (cond b (versioned (last_colon s) n) Same)
          → equal s t ≡ (a || equal s t || (b && has_colon t && equal (base_part s) (base_part t) && at_least n (version t)))
      go true b n e = absurd (let z : ◌≡◌ {A = ℕ} 0 1 = cc in omega arith)
      go false true (Some v) e = absurd (let z : ◌≡◌ {A = ℕ} 0 1 = cc in omega arith)
      go false true None e = no_more (equal s t) (has_colon t && equal (base_part s) (base_part t))
      go false false n e = no_more (equal s t) false

  pub wants_equal : equal s t ≡ true → true ≡ target_match s t
  unfolding target_match
  wants_equal e = rw e (go (equal s ssdp_all))
    where
      go : (a : Bool) → true ≡ (a || true || version_match s t)
      go true = refl
      go false = refl

pub wants_version : (s : List ℕ) (i n : ℕ) → Version i n ≡ wanted_of s → Versioned s i n
unfolding wanted_of
wants_version s i n e = go (equal s ssdp_all) (has_colon s) (version s) refl refl refl e
  where
    go : (a b : Bool) (m : Option ℕ) → equal s ssdp_all ≡ a → has_colon s ≡ b → version s ≡ m → Version i n ≡ cond a All (cond b (versioned (last_colon s) m) Same)
        → Versioned s i n
    go true b m p q r e = absurd (let z : ◌≡◌ {A = ℕ} 0 1 = cc in omega arith)
    go false true (Some v) p q r e =
        let x : i ≡ last_colon s = cc in
        let y : v ≡ n = cc in
        record {
          other = p;
          place = x;
          within-it = omega (arith, ltb-true (last_colon s) (length s) q);
          number_is = r ∙ ap Some y;
        }
    go false true None p q r e = absurd (let z : ◌≡◌ {A = ℕ} 0 1 = cc in omega arith)
    go false false m p q r e = absurd (let z : ◌≡◌ {A = ℕ} 0 1 = cc in omega arith)

pub wants_later : (s t : List ℕ) (i n : ℕ) → Version i n ≡ wanted_of s → later_in s i n t ≡ target_match s t
wants_later s t i n e = later-matches s t i n (wants_version s i n e)

pub wants_within : (s : List ℕ) (i n : ℕ) → Version i n ≡ wanted_of s → i < length s
wants_within s i n e = (wants_version s i n e).within-it
