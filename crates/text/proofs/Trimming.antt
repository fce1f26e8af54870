-- Laws of white space: a run of white-space characters is passed one character a turn, from the front, and from the end over the text read backwards.
use mathlib.Core.Path.{◌≡◌, refl, sym, ◌∙◌, ap}
use mathlib.Core.Bool.{Bool, true, false, cond, ◌&&◌, and-false}
use mathlib.Core.List.{List, [], ◌∷◌, reverse, reverse_aux-append}
use Prim.Native.Nat.{ℕ, zero, suc, ◌+◌, ◌-◌, ◌*◌, ◌%◌, ◌≤◌, ◌<◌}
use native.Mathlib.Omega.{arith}
use borrow.Author.Tests.{le-leb, lt-leb, ne_eqb}
use lib.Dec.{leb, eqb}
use lib.ListN.{length, drop, take, get_or, drop_of_length-le, length-drop, length-reverse}
use lib.Seq.{take-suc, drop-drop, get_or-drop, length-take-le, take_all, take-length}
use Rattle.text.specs.Range.{within}
use Rattle.text.specs.Utf8.{lead_of}
use Rattle.text.specs.White.{white_space, begins, white1, white2, white3, width, opening, closing, at, run, leading, trailing, trimmed}
use Rattle.text.specs.declared.utf8.Lead.{Lead}
use Rattle.text.specs.declared.white.Place.{Place}
use Rattle.text.proofs.Encoding.{nowhere}

-- a byte that is a character by itself stands in no other behind the first byte
by_cond : {A : Type 0} (P : A → Type 0) (t : Bool) {x y : A} → P x → P y → P (cond t x y)
by_cond P true p q = p
by_cond P false p q = q

abbrev Refuses : ℕ → Lead → Type 0
Refuses b l = within l.low l.high b ≡ false

below : (low high b : ℕ) → b < low → within low high b ≡ false
below low high b h = rw (lt-leb low b h)

lead_refuses : (a b : ℕ) → b ≤ 0x7F → Refuses b (lead_of a)
unfolding lead_of
lead_refuses a b h =
    let t : (high : ℕ) → within 0x80 high b ≡ false = λ high. below 0x80 high b (omega arith) in
    by_cond (Refuses b) (leb a 0x7F) (t 0xBF)
    (by_cond (Refuses b) (within 0xC2 0xDF a) (t 0xBF)
    (by_cond (Refuses b) (eqb a 0xE0) (below 0xA0 0xBF b (omega arith))
    (by_cond (Refuses b) (within 0xE1 0xEC a) (t 0xBF)
    (by_cond (Refuses b) (eqb a 0xED) (t 0x9F)
    (by_cond (Refuses b) (within 0xEE 0xEF a) (t 0xBF)
    (by_cond (Refuses b) (eqb a 0xF0) (below 0x90 0xBF b (omega arith))
    (by_cond (Refuses b) (within 0xF1 0xF3 a) (t 0xBF)
    (by_cond (Refuses b) (eqb a 0xF4) (t 0x8F) (nowhere b)))))))))

no_second : (tail a b : ℕ) → b ≤ 0x7F → begins tail a b ≡ false
unfolding begins
no_second tail a b h = ap (◌&&◌ (eqb (lead_of a).tail tail)) (lead_refuses a b h) ∙ and-false (eqb (lead_of a).tail tail)

no_third : (a b c : ℕ) → c ≤ 0x7F → white3 a b c ≡ false
no_third a b c h =
    ap (λ (t : Bool). begins 2 a b && t && white_space ((a % 16 * 64 + b % 64) * 64 + c % 64)) (below 0x80 0xBF c (omega arith))
    ∙ ap (λ (t : Bool). t && white_space ((a % 16 * 64 + b % 64) * 64 + c % 64)) (and-false (begins 2 a b))

-- and begins none of two or three bytes
no_tail : (tail a b : ℕ) → a ≤ 0x7F → begins (suc tail) a b ≡ false
unfolding begins lead_of
no_tail tail a b h = rw (le-leb a 0x7F h, ne_eqb 0 (suc tail) (λ e. absurd (omega (arith, e))))

pub opening-ascii : (a b c : ℕ) → a ≤ 0x7F → width (white_space a) false false ≡ opening a b c
opening-ascii a b c h = sym (rw (le-leb a 0x7F h, no_tail 0 a b h, no_tail 1 a b h))

pub closing-ascii : (c b a : ℕ) → c ≤ 0x7F → width (white_space c) false false ≡ closing c b a
closing-ascii c b a h = sym (rw (le-leb c 0x7F h, no_second 1 b c h, no_third a b c h))

-- a test that counts no more bytes than there are
pub record Bounded (f : ℕ → ℕ → ℕ → ℕ) : Type 0 where
  pub one : (a : ℕ) → f a 0 0 ≤ 1
  pub two : (a b : ℕ) → f a b 0 ≤ 2
  pub three : (a b c : ℕ) → f a b c ≤ 3
  pub none : f 0 0 0 ≡ 0

width_one : (a : Bool) → width a false false ≤ 1
width_one true = omega arith
width_one false = omega arith

width_two : (a b : Bool) → width a b false ≤ 2
width_two true b = omega arith
width_two false true = omega arith
width_two false false = omega arith

width_three : (a b c : Bool) → width a b c ≤ 3
width_three true b c = omega arith
width_three false true c = omega arith
width_three false false true = omega arith
width_three false false false = omega arith

pub opening-bounded : Bounded opening
unfolding white_space
opening-bounded = record {
  one = λ a. rw (no_second 1 a 0 (omega arith), no_second 2 a 0 (omega arith)) (width_one (white1 a));
  two = λ a b. rw (no_third a b 0 (omega arith)) (width_two (white1 a) (white2 a b));
  three = λ a b c. width_three (white1 a) (white2 a b) (white3 a b c);
  none = sym (opening-ascii 0 0 0 (omega arith));
}

pub closing-bounded : Bounded closing
unfolding white_space begins lead_of
closing-bounded = record {
  one = λ c. width_one (white1 c);
  two = λ c b. width_two (white1 c) (white2 b c);
  three = λ c b a. width_three (white1 c) (white2 b c) (white3 a b c);
  none = refl;
}

-- a run, one character a turn
module _ (f : ℕ → ℕ → ℕ → ℕ) (g : Bounded f) where
  fits : (l : List ℕ) → at f l ≤ length l
  fits [] = omega (arith, g.none)
  fits (a ∷ []) = g.one a
  fits (a ∷ b ∷ []) = g.two a b
  fits (a ∷ b ∷ c ∷ l) = omega (arith, g.three a b c)

  begun : (k : ℕ) (l : List ℕ) → k ≤ length l → run f k l ≡ k + run f 0 (drop k l)
  unfolding run
  begun zero l h = omega arith
  begun (suc k) [] h = absurd (omega arith)
  begun (suc k) (a ∷ l) h = let r : run f k l ≡ k + run f 0 (drop k l) = begun k l (omega arith) in omega (arith, r)

  stop : (l : List ℕ) → at f l ≡ 0 → run f 0 l ≡ 0
  unfolding run
  stop [] h = refl
  stop (a ∷ l) h = ap (λ (w : ℕ). elim w [ zero ↦ 0 | suc k ↦ suc (run f k l) ]) h

  pass : (l : List ℕ) → run f 0 l ≡ at f l + run f 0 (drop (at f l) l)
  unfolding run
  pass [] = sym (rw g.none)
  pass (a ∷ l) = go (at f (a ∷ l)) refl
    where
      go : (w : ℕ) → at f (a ∷ l) ≡ w → run f 0 (a ∷ l) ≡ at f (a ∷ l) + run f 0 (drop (at f (a ∷ l)) (a ∷ l))
      go zero e = let q : run f 0 (a ∷ l) ≡ 0 = stop (a ∷ l) e in rw e (omega (arith, q))
      go (suc k) e =
          let r : run f k l ≡ k + run f 0 (drop k l) = begun k l (omega (arith, fits (a ∷ l))) in
          let q : run f 0 (a ∷ l) ≡ suc (run f k l) = ap (λ (w : ℕ). elim w [ zero ↦ 0 | suc k ↦ suc (run f k l) ]) e in
          rw e (omega (arith, r, q))

run-le : (f : ℕ → ℕ → ℕ → ℕ) (k : ℕ) (l : List ℕ) → run f k l ≤ length l
unfolding run
run-le f k [] = omega arith
run-le f (suc k) (a ∷ l) = let r : run f k l ≤ length l = run-le f k l in omega (arith, r)
run-le f zero (a ∷ l) = go (at f (a ∷ l)) (λ k. run-le f k l)
  where
    go : (w : ℕ) → ((k : ℕ) → run f k l ≤ length l) → elim w [ zero ↦ 0 | suc k ↦ suc (run f k l) ] ≤ suc (length l)
    go zero h = omega arith
    go (suc k) h = omega (arith, h k)

pub leading_le : (s : List ℕ) → leading s ≤ length s
unfolding leading
leading_le s = run-le opening 0 s

pub trailing_le : (s : List ℕ) → trailing s ≤ length s
unfolding trailing
trailing_le s = omega (arith, run-le closing 0 (reverse s), length-reverse s)

-- the first e bytes of a text, read backwards
back_cons : (s : List ℕ) (e : ℕ) → e < length s → reverse (take (suc e) s) ≡ get_or s e 0 ∷ reverse (take e s)
back_cons s e h = ap reverse (take-suc s e 0 h) ∙ reverse_aux-append (take e s) (get_or s e 0 ∷ []) []

back_drop : (s : List ℕ) (w e : ℕ) → w ≤ e → e ≤ length s → drop w (reverse (take e s)) ≡ reverse (take (e - w) s)
back_drop s zero e h g = let q : e ≡ e - 0 = omega arith in ap (λ (k : ℕ). reverse (take k s)) q
back_drop s (suc w) zero h g = absurd (omega arith)
back_drop s (suc w) (suc e) h g = let q : e - w ≡ suc e - suc w = omega arith in rw (back_cons s e) (back_drop s w e (omega arith) (omega arith) ∙ ap (λ (k : ℕ). reverse (take k s)) q)

pub back_at : (s : List ℕ) (k e : ℕ) → k < e → e ≤ length s → get_or (reverse (take e s)) k 0 ≡ get_or s (e - 1 - k) 0
back_at s zero zero h g = absurd (omega arith)
back_at s zero (suc e) h g = rw (back_cons s e) (ap (λ (k : ℕ). get_or s k 0) (omega arith))
back_at s (suc k) zero h g = absurd (omega arith)
back_at s (suc k) (suc e) h g = rw (back_cons s e) (back_at s k e (omega arith) (omega arith) ∙ ap (λ (k : ℕ). get_or s k 0) (omega arith))

pub back_length : (s : List ℕ) (e : ℕ) → e ≤ length s → length (reverse (take e s)) ≡ e
back_length s e h = length-reverse (take e s) ∙ length-take-le e s h

-- the test at place i
pub at_drop : (f : ℕ → ℕ → ℕ → ℕ) (s : List ℕ) (i : ℕ) → at f (drop i s) ≡ f (get_or s i 0) (get_or s (i + 1) 0) (get_or s (i + 2) 0)
at_drop f s i =
    let e : get_or (drop i s) 0 0 ≡ get_or s i 0 = get_or-drop i s 0 0 ∙ ap (λ (k : ℕ). get_or s k 0) (omega arith) in
    let g : get_or (drop i s) 1 0 ≡ get_or s (i + 1) 0 = get_or-drop i s 1 0 in
    let h : get_or (drop i s) 2 0 ≡ get_or s (i + 2) 0 = get_or-drop i s 2 0 in
    cc

-- the calls of `opening_at` and `closing_at` put together
pub widths : {w : ℕ} {p q r x y z : Bool} → p ≡ x → q ≡ y → r ≡ z → w ≡ width p q r → w ≡ width x y z
widths {w} {p} {q} {r} {x} {y} e f g h = h ∙ ap (λ (b : Bool). width b q r) e ∙ ap (λ (b : Bool). width x b r) f ∙ ap (width x y) g

pub three-of : (f : ℕ → ℕ → ℕ → ℕ) {a b c x y z w : ℕ} → w ≡ f a b c → a ≡ x → b ≡ y → c ≡ z → w ≡ f x y z
three-of f p e g h = cc

-- a turn of each loop
module _ (s : List ℕ) (i : ℕ) {w : ℕ} (test : w ≡ at opening (drop i s)) where
  pub leading-fits : i ≤ length s → i + w ≤ length s
  leading-fits h = omega (arith, fits opening opening-bounded (drop i s), length-drop i s, test)

  pub leading-stop : w ≡ 0 → leading s ≡ i + leading (drop i s) → leading s ≡ i
  unfolding leading
  leading-stop z p = let q : run opening 0 (drop i s) ≡ 0 = stop opening opening-bounded (drop i s) (sym test ∙ z) in omega (arith, p, q)

  pub leading-turn : leading s ≡ i + leading (drop i s) → leading s ≡ i + w + leading (drop (i + w) s)
  unfolding leading
  leading-turn p =
      let q : run opening 0 (drop i s) ≡ at opening (drop i s) + run opening 0 (drop (at opening (drop i s)) (drop i s)) = pass opening opening-bounded (drop i s) in
      let r : drop (at opening (drop i s)) (drop i s) ≡ drop (i + w) s = ap (λ (k : ℕ). drop k (drop i s)) (sym test) ∙ drop-drop w i s in
      omega (arith, p, q, test, ap (run opening 0) r)

pub leading_end : (s : List ℕ) (i : ℕ) → length s ≤ i → leading s ≡ i + leading (drop i s) → leading s ≡ i
unfolding leading run
leading_end s i h p = let q : leading (drop i s) ≡ 0 = ap leading (drop_of_length-le s h) in omega (arith, p, q)

module _ (s : List ℕ) (e : ℕ) {w : ℕ} (test : w ≡ at closing (reverse (take e s))) where
  pub trailing-fits : e ≤ length s → w ≤ e
  trailing-fits h = omega (arith, fits closing closing-bounded (reverse (take e s)), back_length s e h, test)

  pub trailing-stop : w ≡ 0 → trailing s ≡ length s - e + trailing (take e s) → trailing s ≡ length s - e
  unfolding trailing
  trailing-stop z p = let r : trailing (take e s) ≡ 0 = stop closing closing-bounded (reverse (take e s)) (sym test ∙ z) in omega (arith, p, r)

  pub trailing-turn : e ≤ length s → trailing s ≡ length s - e + trailing (take e s) → trailing s ≡ length s - (e - w) + trailing (take (e - w) s)
  unfolding trailing
  trailing-turn h p =
      let f : w ≤ e = trailing-fits h in
      let t : trailing (take e s) ≡ at closing (reverse (take e s)) + run closing 0 (drop (at closing (reverse (take e s))) (reverse (take e s))) = pass closing closing-bounded (reverse (take e s)) in
      let r : drop (at closing (reverse (take e s))) (reverse (take e s)) ≡ reverse (take (e - w) s) = ap (λ (k : ℕ). drop k (reverse (take e s))) (sym test) ∙ back_drop s w e f h in
      omega (arith, p, test, t, ap (run closing 0) r)

pub trailing-start : (s : List ℕ) → trailing s ≡ length s - length s + trailing (take (length s) s)
trailing-start s = let q : trailing (take (length s) s) ≡ trailing s = ap trailing (take-length s) in omega (arith, q)

pub trailing-end : (s : List ℕ) (e : ℕ) → e ≤ 0 → trailing s ≡ length s - e + trailing (take e s) → trailing s ≡ length s - e
unfolding trailing run
trailing-end s e h p = let z : e ≡ 0 = omega arith in let q : trailing (take e s) ≡ 0 = ap (λ (k : ℕ). trailing (take k s)) z in omega (arith, p, q)

-- the two answers of `trim`
abbrev placed : ℕ → ℕ → Place
placed i n = record { start = i; len = n }

pub trim_blank : (s : List ℕ) {i : ℕ} → i ≡ leading s → length s ≤ i → placed 0 0 ≡ trimmed s
unfolding trimmed
trim_blank s e h = sym (rw (le-leb (length s) (leading s) (omega (arith, e))))

pub trim_part : (s : List ℕ) {rest : List ℕ} {i n : ℕ} → i ≡ leading s → i < length s → rest ≡ take (length s - i) (drop i s) → n ≡ trailing rest → placed i (length rest - n) ≡ trimmed s
unfolding trimmed
trim_part s {rest} {i} {n} e h p q =
    let r : rest ≡ drop (leading s) s = p ∙ take_all (length s - i) (drop i s) (omega (arith, length-drop i s)) ∙ ap (λ (k : ℕ). drop k s) e in
    let g : leading s < length s = omega (arith, e) in
    let m : length rest - n ≡ length (drop (leading s) s) - trailing (drop (leading s) s) = omega (arith, ap length r, q, ap trailing r) in
    ap (λ (k : ℕ). placed k (length rest - n)) e ∙ ap (placed (leading s)) m ∙ sym (rw (lt-leb (length s) (leading s) g))

-- a trimmed text is a part of the text
pub trimmed-inside : (s : List ℕ) → (trimmed s).start + (trimmed s).len ≤ length s
unfolding trimmed
trimmed-inside s = go (leb (length s) (leading s)) (leading_le s) (length-drop (leading s) s)
  where
    go : (t : Bool) → leading s ≤ length s → length (drop (leading s) s) ≡ length s - leading s
        → (cond t (placed 0 0) (placed (leading s) (length (drop (leading s) s) - trailing (drop (leading s) s)))).start
        + (cond t (placed 0 0) (placed (leading s) (length (drop (leading s) s) - trailing (drop (leading s) s)))).len ≤ length s
    go true h e = omega arith
    go false h e = omega arith
