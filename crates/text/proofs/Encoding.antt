-- Laws of UTF-8: lead bytes range by range, one byte of a text in each state of the check, and a text behind another.
use mathlib.Core.Path.{◌≡◌, refl, sym, ◌∙◌, ap}
use mathlib.Core.Bool.{Bool, true, false, ◌&&◌, ◌||◌, and-eq-true_iff, false≢true, and_assoc, and-true, and-false}
use mathlib.Core.List.{List, [], ◌∷◌, ◌++◌}
use Prim.Native.Nat.{ℕ, zero, suc, ◌+◌, ◌-◌, ◌≤◌, ◌<◌}
use native.Mathlib.Omega.{arith}
use native.Mathlib.Numerals.{add-one}
use borrow.Author.Tests.{eqb-true, le-leb, lt-leb, leb-true}
use lib.Dec.{T, eqb, leb}
use lib.ListN.{length, take, drop, get_or, length-drop, drop_of_length-le}
use lib.Seq.{drop-cons, drop-drop, take-length, take_all}
use Rattle.text.specs.Range.{within, every}
use Rattle.text.specs.Utf8.{lead_of, expects, rest, utf8, ascii, follows}
use Rattle.text.specs.declared.utf8.Lead.{Lead}
use Rattle.text.proofs.Span.{all, span, is_true, and_left, and_right}

abbrev pub same-lead : Lead → Lead → Bool
same-lead x y = eqb x.tail y.tail && (eqb x.low y.low && eqb x.high y.high)

pub same-lead_is : (x y : Lead) → T (same-lead x y) → x ≡ y
same-lead_is x y t =
    let a = eqb-true x.tail y.tail (is_true _ (and_left (eqb x.tail y.tail) (eqb x.low y.low && eqb x.high y.high) t)) in
    let r = and_right (eqb x.tail y.tail) (eqb x.low y.low && eqb x.high y.high) t in
    let b = eqb-true x.low y.low (is_true _ (and_left (eqb x.low y.low) (eqb x.high y.high) r)) in
    let d = eqb-true x.high y.high (is_true _ (and_right (eqb x.low y.low) (eqb x.high y.high) r)) in
    ap (λ (m : ℕ). expects m x.low x.high) a ∙ ap (λ (m : ℕ). expects y.tail m x.high) b ∙ ap (expects y.tail y.low) d

unfoldable pub leads : Lead → ℕ → Bool
leads l b = same-lead l (lead_of b)

-- an arm of the match: the n bytes from low on fix l
pub arm : (low n : ℕ) (l : Lead) → T (all (leads l) low n) → (b : ℕ) → low ≤ b → b < low + n → l ≡ lead_of b
unfolding leads lead_of
arm low n l t b h g = same-lead_is l (lead_of b) (span (leads l) n low t b h g)

-- the range of the byte behind one that begins no character
pub nowhere : (b : ℕ) → within 1 0 b ≡ false
nowhere zero = refl
nowhere (suc b) = ap (◌&&◌ (leb 1 (suc b))) (lt-leb (suc b) 0 (omega arith)) ∙ and-false (leb 1 (suc b))

-- what a byte fixes as a lead byte: three bytes follow it at most, and none only if it is a character by itself
unfoldable leading : ℕ → Bool
leading b = leb (lead_of b).tail 3 && (leb b 0x7F || leb 1 (lead_of b).tail)

is_leading : (b : ℕ) → b < 0x100 → leading b ≡ true
unfolding leading lead_of
is_leading b h = is_true _ (span leading 0x100 0 tt b (omega arith) h)

pub tail-most : (b : ℕ) {l : Lead} → b < 0x100 → l ≡ lead_of b → l.tail ≤ 3
unfolding leading
tail-most b {l} h e =
    let t : (lead_of b).tail ≤ 3 = leb-true (lead_of b).tail 3 ((and-eq-true_iff (leb (lead_of b).tail 3) (leb b 0x7F || leb 1 (lead_of b).tail)).0 (is_leading b h)).0 in
    let q : l.tail ≡ (lead_of b).tail = ap (λ (x : Lead). x.tail) e in
    omega (arith, t, q)

pub no_tail : (b : ℕ) {l : Lead} → b < 0x100 → l ≡ lead_of b → l.tail ≡ 0 → b ≤ 0x7F
unfolding leading
no_tail b {l} h e z = go (leb b 0x7F) refl ((and-eq-true_iff (leb (lead_of b).tail 3) (leb b 0x7F || leb 1 (lead_of b).tail)).0 (is_leading b h)).1
  where
    go : (t : Bool) → leb b 0x7F ≡ t → (t || leb 1 (lead_of b).tail) ≡ true → b ≤ 0x7F
    go true u v = leb-true b 0x7F u
    go false u v = absurd (let w : 1 ≤ (lead_of b).tail = leb-true 1 (lead_of b).tail v in let q : l.tail ≡ (lead_of b).tail = ap (λ (x : Lead). x.tail) e in omega (arith, w, q, z))

-- a character passes as a whole
follows-rest : (k low high : ℕ) (s : List ℕ) → rest k low high s ≡ (follows k low high s && rest 0 0x80 0xBF (drop k s))
unfolding rest follows
follows-rest zero low high [] = refl
follows-rest zero low high (b ∷ s) = refl
follows-rest (suc k) low high [] = refl
follows-rest (suc k) low high (b ∷ s) =
    ap (◌&&◌ (within low high b)) (follows-rest k 0x80 0xBF s) ∙ sym (and_assoc (within low high b) (follows k 0x80 0xBF s) (rest 0 0x80 0xBF (drop k s)))

follows-short : (k low high : ℕ) (s : List ℕ) → length s < k → follows k low high s ≡ false
unfolding follows
follows-short zero low high s h = absurd (omega arith)
follows-short (suc k) low high [] h = refl
follows-short (suc k) low high (b ∷ s) h = ap (◌&&◌ (within low high b)) (follows-short k 0x80 0xBF s (omega arith)) ∙ and-false (within low high b)

follows-le : (k low high : ℕ) (s : List ℕ) → follows k low high s ≡ true → k ≤ length s
unfolding follows
follows-le zero low high s e = omega arith
follows-le (suc k) low high [] e = absurd (false≢true e)
follows-le (suc k) low high (b ∷ s) e = let r : k ≤ length s = follows-le k 0x80 0xBF s ((and-eq-true_iff (within low high b) (follows k 0x80 0xBF s)).0 e).1 in omega (arith, r)

-- the first byte behind a lead byte, and one more
follows-one : (low high : ℕ) (s : List ℕ) → 0 < length s → follows 1 low high s ≡ within low high (get_or s 0 0)
unfolding follows
follows-one low high [] h = absurd (omega arith)
follows-one low high (b ∷ s) h = and-true (within low high b)

follows-more : (k low high : ℕ) (s : List ℕ) → suc k < length s → follows (suc (suc k)) low high s ≡ (follows (suc k) low high s && within 0x80 0xBF (get_or s (suc k) 0))
unfolding follows
follows-more k low high [] h = absurd (omega arith)
follows-more zero low high (b ∷ s) h = ap (◌&&◌ (within low high b)) (follows-one 0x80 0xBF s (omega arith)) ∙ ap (λ (t : Bool). t && within 0x80 0xBF (get_or s 0 0)) (sym (and-true (within low high b)))
follows-more (suc k) low high (b ∷ s) h =
    ap (◌&&◌ (within low high b)) (follows-more k 0x80 0xBF s (omega arith))
    ∙ sym (and_assoc (within low high b) (follows (suc k) 0x80 0xBF s) (within 0x80 0xBF (get_or s (suc k) 0)))

-- the answers of `has_tail`
module _ (l : Lead) (s : List ℕ) where
  as_many : (k : ℕ) → l.tail ≡ k → follows k l.low l.high s ≡ follows l.tail l.low l.high s
  as_many k e = ap (λ (n : ℕ). follows n l.low l.high s) (sym e)

  pub tail-short : length s < l.tail → false ≡ follows l.tail l.low l.high s
  tail-short h = sym (follows-short l.tail l.low l.high s h)

  pub tail-none : l.tail ≡ 0 → true ≡ follows l.tail l.low l.high s
  unfolding follows
  tail-none e = as_many 0 e

  pub tail-one : l.tail ≡ 1 → 1 ≤ length s → {p : Bool} → p ≡ within l.low l.high (get_or s 0 0) → p ≡ follows l.tail l.low l.high s
  tail-one e h q = q ∙ sym (follows-one l.low l.high s (omega arith)) ∙ as_many 1 e

  pub tail-two : l.tail ≡ 2 → 2 ≤ length s → {p q : Bool} → p ≡ within l.low l.high (get_or s 0 0) → q ≡ within 0x80 0xBF (get_or s 1 0) → (p && q) ≡ follows l.tail l.low l.high s
  tail-two e h {p} {q} a b = rw (a, b, ← follows-one l.low l.high s (omega arith)) (sym (follows-more 0 l.low l.high s (omega arith)) ∙ as_many 2 e)

  pub tail-three : l.tail ≡ 3 → 3 ≤ length s → {p q r : Bool} → p ≡ within l.low l.high (get_or s 0 0) → q ≡ within 0x80 0xBF (get_or s 1 0) → r ≡ within 0x80 0xBF (get_or s 2 0)
      → (p && q && r) ≡ follows l.tail l.low l.high s
  tail-three e h {p} {q} {r} a b d =
      rw (a, b, d, ← follows-one l.low l.high s (omega arith), ← follows-more 0 l.low l.high s (omega arith)) (sym (follows-more 1 l.low l.high s (omega arith)) ∙ as_many 3 e)

-- r tells whether the w bytes at place i of s are the character that begins there
pub record Character (s : List ℕ) (i w : ℕ) (r : Bool) : Type 0 where
  pub inside : r ≡ true → i + w ≤ length s
  pub decides : utf8 (drop i s) ≡ (r && utf8 (drop (i + w) s))

module _ (s : List ℕ) (i : ℕ) (room : i < length s) {l : Lead} (e : l ≡ lead_of (get_or s i 0)) where
  after-lead : utf8 (drop i s) ≡ rest l.tail l.low l.high (drop (i + 1) s)
  unfolding utf8 rest
  after-lead = rw (add-one, drop-cons s i 0) (ap (λ (x : Lead). rest x.tail x.low x.high (drop (suc i) s)) (sym e))

  -- the length is what the lead byte says
  pub character : {r : Bool} → r ≡ follows l.tail l.low l.high (take (length s - (i + 1)) (drop (i + 1) s)) → Character s i (1 + l.tail) r
  unfolding utf8
  character {r} a =
      let q : r ≡ follows l.tail l.low l.high (drop (i + 1) s) = a ∙ ap (follows l.tail l.low l.high) (take_all (length s - (i + 1)) (drop (i + 1) s) (omega (arith, length-drop (i + 1) s))) in
      let z : i + 1 + l.tail ≡ i + (1 + l.tail) = omega arith in
      record {
        inside = λ t. omega (arith, follows-le l.tail l.low l.high (drop (i + 1) s) (sym q ∙ t), length-drop (i + 1) s);
        decides =
            after-lead
            ∙ follows-rest l.tail l.low l.high (drop (i + 1) s)
            ∙ ap (λ (m : List ℕ). follows l.tail l.low l.high (drop (i + 1) s) && utf8 m) (drop-drop l.tail (i + 1) s ∙ ap (λ (m : ℕ). drop m s) z)
            ∙ ap (λ (t : Bool). t && utf8 (drop (i + (1 + l.tail)) s)) (sym q);
      }

pub passed : {s : List ℕ} {i w : ℕ} {r : Bool} → Character s i w r → r ≡ true → utf8 (drop (i + w) s) ≡ utf8 (drop i s)
passed {s} {i} {w} {r} k e = sym (k.decides ∙ ap (λ (t : Bool). t && utf8 (drop (i + w) s)) e)

pub refused : {s : List ℕ} {i w : ℕ} {r : Bool} → Character s i w r → r ≡ false → false ≡ utf8 (drop i s)
refused {s} {i} {w} {r} k e = sym (k.decides ∙ ap (λ (t : Bool). t && utf8 (drop (i + w) s)) e)

pub nothing_left : (s : List ℕ) (i : ℕ) → length s ≤ i → true ≡ utf8 (drop i s)
unfolding utf8 rest
nothing_left s i h = sym (ap utf8 (drop_of_length-le s h))

-- bytes that are characters by themselves
ascii-lead : (b : ℕ) → ascii b ≡ true → lead_of b ≡ expects 0 0x80 0xBF
unfolding lead_of
ascii-lead b e = rw e

pub ascii-front : (k : ℕ) (s : List ℕ) → every ascii (take k s) ≡ true → utf8 s ≡ utf8 (drop k s)
unfolding every utf8 rest
ascii-front zero s e = refl
ascii-front (suc k) [] e = refl
ascii-front (suc k) (b ∷ s) e =
    let p = (and-eq-true_iff (ascii b) (every ascii (take k s))).0 e in
    ap (λ (x : Lead). rest x.tail x.low x.high s) (ascii-lead b p.0) ∙ ascii-front k s p.1

pub ascii-whole : (s : List ℕ) → every ascii s ≡ true → true ≡ utf8 s
ascii-whole s e = nothing_left s (length s) (omega arith) ∙ sym (ascii-front (length s) s (ap (every ascii) (take-length s) ∙ e))

-- a block of such bytes, and one of them, at place i
pub ascii-block : (s : List ℕ) (i k : ℕ) → every ascii (take (i + k - i) (drop i s)) ≡ true → utf8 (drop i s) ≡ utf8 (drop (i + k) s)
ascii-block s i k e =
    let z : k ≡ i + k - i = omega arith in
    ascii-front k (drop i s) (ap (λ (m : ℕ). every ascii (take m (drop i s))) z ∙ e) ∙ ap utf8 (drop-drop k i s)

pub ascii-byte : (s : List ℕ) (i : ℕ) → i < length s → get_or s i 0 ≤ 0x7F → utf8 (drop i s) ≡ utf8 (drop (i + 1) s)
unfolding utf8 rest
ascii-byte s i h g =
    rw (add-one, drop-cons s i 0)
    (ap (λ (x : Lead). rest x.tail x.low x.high (drop (suc i) s)) (ascii-lead (get_or s i 0) (le-leb (get_or s i 0) 0x7F g)))

-- a text behind another that is UTF-8
no_state : (low high : ℕ) (t : List ℕ) → rest 0 low high t ≡ rest 0 0x80 0xBF t
unfolding rest
no_state low high [] = refl
no_state low high (b ∷ t) = refl

rest-append : (k low high : ℕ) (s t : List ℕ) → rest k low high s ≡ true → rest k low high (s ++ t) ≡ rest 0 0x80 0xBF t
unfolding rest
rest-append zero low high [] t e = no_state low high t
rest-append (suc k) low high [] t e = absurd (false≢true e)
rest-append zero low high (b ∷ s) t e = rest-append (lead_of b).tail (lead_of b).low (lead_of b).high s t e
rest-append (suc k) low high (b ∷ s) t e =
    let p = (and-eq-true_iff (within low high b) (rest k 0x80 0xBF s)).0 e in
    ap (λ (x : Bool). x && rest k 0x80 0xBF (s ++ t)) p.0 ∙ rest-append k 0x80 0xBF s t p.1

pub utf8_append : (s t : List ℕ) → utf8 s ≡ true → utf8 (s ++ t) ≡ utf8 t
unfolding utf8
utf8_append s t e = rest-append 0 0x80 0xBF s t e
