-- Laws of gathering lines: a text without byte 10, and byte 10 behind it or the input's end, is one line; what of it finds no room in the
-- buffer only makes it too long.
use mathlib.Core.Path.{◌≡◌, refl, sym, ◌∙◌, ap, subst}
use mathlib.Core.Bool.{Bool, true, false, cond, and-eq-true_iff}
use mathlib.Core.List.{List, [], ◌∷◌, ◌++◌, append_assoc}
use Prim.Native.Nat.{ℕ, zero, suc, ◌+◌, ◌-◌, min, ◌≤◌, ◌<◌}
use native.Mathlib.Omega.{arith}
use native.Mathlib.Numerals.{add-one}
use borrow.Author.Tests.{lt-leb, leb-true, leb-false, lt-ltb, le-ltb, not-true}
use lib.Dec.{eqb, leb}
use lib.ListN.{length, take, get_or, length-append, length-take}
use lib.Seq.{take_all, take-suc, take-append-le, length-take-le}
use Rattle.text.specs.Bytes.{first_place, headed, index_of}
use Rattle.text.specs.Lines.{lines, bare, without, first_line, before}
use Rattle.text.proofs.Finding.{index_of-found}
use Rattle.console.specs.Each.{all}
use Rattle.console.specs.Buffer.{Filled, Appends}
use Rattle.console.specs.Input.{line_max, ended, event_in, not_end, Pending, up_to, gathered, Gathers, finished}
use Rattle.console.specs.declared.input.Event.{Event}
use Rattle.console.specs.declared.input.Event.TheVariants.{More}

-- a test of each byte, of parts
module _ (f : ℕ → Bool) where
  pub all_append : (s t : List ℕ) → all f s ≡ true → all f t ≡ true → all f (s ++ t) ≡ true
  all_append [] t e g = g
  all_append (a ∷ s) t e g = let p = (and-eq-true_iff (f a) (all f s)).0 e in rw p.0 (all_append s t p.1 g)

  all_take : (n : ℕ) (s : List ℕ) → all f s ≡ true → all f (take n s) ≡ true
  all_take zero s e = refl
  all_take (suc n) [] e = refl
  all_take (suc n) (a ∷ s) e = let p = (and-eq-true_iff (f a) (all f s)).0 e in rw p.0 (all_take n s p.1)

  all-at : (s : List ℕ) (i d : ℕ) → all f s ≡ true → i < length s → f (get_or s i d) ≡ true
  all-at [] i d e h = absurd (omega arith)
  all-at (a ∷ s) zero d e h = ((and-eq-true_iff (f a) (all f s)).0 e).0
  all-at (a ∷ s) (suc i) d e h = all-at s i d ((and-eq-true_iff (f a) (all f s)).0 e).1 (omega arith)

-- no byte 10 stands before the first
before-first : (s : List ℕ) → all not_end (take (first_place (headed 10) s) s) ≡ true
unfolding first_place
before-first [] = refl
before-first (a ∷ s) = go (eqb a 10) refl (before-first s)
  where
    go : (t : Bool) → eqb a 10 ≡ t → all not_end (take (first_place (headed 10) s) s) ≡ true → all not_end (take (cond t 0 (suc (first_place (headed 10) s))) (a ∷ s)) ≡ true
    go true e r = refl
    go false e r = rw e r

pub unended : (s : List ℕ) → all not_end (take (index_of 10 s) s) ≡ true
unfolding index_of
unended s = before-first s

-- the lines of a text without byte 10, and with byte 10 behind it
pub lines-ended : (s t : List ℕ) → all not_end s ≡ true → lines (s ++ 10 ∷ t) ≡ (s ++ 10 ∷ []) ∷ lines t
unfolding lines
lines-ended [] t e = refl
lines-ended (a ∷ s) t e =
    let p = (and-eq-true_iff (not_end a) (all not_end s)).0 e in
    ap (λ (q : Bool). before q a (lines (s ++ 10 ∷ t))) (not-true (eqb a 10) p.0) ∙ ap (before false a) (lines-ended s t p.1)

pub lines-last : (a : ℕ) (s : List ℕ) → all not_end (a ∷ s) ≡ true → lines (a ∷ s) ≡ (a ∷ s) ∷ []
unfolding lines
lines-last a [] e = ap (λ (q : Bool). before q a []) (not-true (eqb a 10) ((and-eq-true_iff (not_end a) true).0 e).0)
lines-last a (b ∷ s) e =
    let p = (and-eq-true_iff (not_end a) (all not_end (b ∷ s))).0 e in
    ap (λ (q : Bool). before q a (lines (b ∷ s))) (not-true (eqb a 10) p.0) ∙ ap (before false a) (lines-last b s p.1)

-- one line, with its end or as the input's last
pub data OneLine : List ℕ → Type 0 where
  ends : (s : List ℕ) → all not_end s ≡ true → OneLine (s ++ (10 ∷ []))
  last : (a : ℕ) (s : List ℕ) → all not_end (a ∷ s) ≡ true → OneLine (a ∷ s)

one_line : {t : List ℕ} → OneLine t → lines t ≡ t ∷ []
unfolding lines
one_line (ends s e) = lines-ended s [] e
one_line (last a s e) = lines-last a s e

-- a part of it has no end
one-part : {t : List ℕ} (n : ℕ) → OneLine t → n < length t → all not_end (take n t) ≡ true
one-part n (ends s e) h =
    ap (all not_end) (take-append-le n s (10 ∷ []) (omega (arith, length-append s (10 ∷ [])))) ∙ all_take not_end n s e
one-part n (last a s e) h = all_take not_end n (a ∷ s) e

first-len : (t : List ℕ) → lines t ≡ t ∷ [] → (first_line t).len ≡ length (bare t)
unfolding first_line
first-len t e = rw e

-- a line's end has at most two bytes, and a text without byte 10 has none
drops-one : (q : Bool) (l : List ℕ) → length l ≤ length (cond q (take (length l - 1) l) l) + 1
drops-one true l = omega (arith, length-take (length l - 1) l)
drops-one false l = omega arith

drops-two : (q : Bool) (l : List ℕ) → length l ≤ length (cond q (without 13 (take (length l - 1) l)) l) + 2
unfolding without
drops-two true l =
    let m = take (length l - 1) l in
    omega (arith, length-take (length l - 1) l, drops-one (eqb (get_or m (length m - 1) 0) 13) m)
drops-two false l = omega arith

pub bare-short : (l : List ℕ) → length l ≤ length (bare l) + 2
unfolding bare
bare-short l = drops-two (eqb (get_or l (length l - 1) 0) 10) l

last_byte : (l : List ℕ) → all not_end l ≡ true → eqb (get_or l (length l - 1) 0) 10 ≡ false
last_byte [] e = refl
last_byte (a ∷ s) e = not-true (eqb (get_or (a ∷ s) (length (a ∷ s) - 1) 0) 10) (all-at not_end (a ∷ s) (length (a ∷ s) - 1) 0 e (omega arith))

bare-unended : (l : List ℕ) → all not_end l ≡ true → bare l ≡ l
unfolding bare
bare-unended l e = rw (last_byte l e)

unended-len : (l : List ℕ) → 0 < length l → all not_end l ≡ true → (first_line l).len ≡ length l
unended-len [] h e = absurd (omega arith)
unended-len (a ∷ s) h e = first-len (a ∷ s) (lines-last a s e) ∙ ap length (bare-unended (a ∷ s) e)

too_long : (n m used : ℕ) → line_max < n → line_max < m → ended n used ≡ ended m used
too_long n m used h g = rw (lt-leb n line_max h, lt-leb m line_max g)

-- the event of a line is that of what the buffer holds of it
pub told : (t buffer : List ℕ) (len used : ℕ) → Filled t buffer len → line_max + 2 ≤ length buffer → OneLine t → event_in (take len buffer) used ≡ ended (length (bare t)) used
unfolding event_in
told t buffer len used f room one =
    ap (λ (l : List ℕ). ended (first_line l).len used) f.front ∙ go (leb (length t) (length buffer)) refl
  where
    go : (q : Bool) → leb (length t) (length buffer) ≡ q → ended (first_line (take (length buffer) t)).len used ≡ ended (length (bare t)) used
    go true e =
        ap (λ (l : List ℕ). ended (first_line l).len used) (take_all (length buffer) t (leb-true (length t) (length buffer) e))
        ∙ ap (λ (n : ℕ). ended n used) (first-len t (one_line one))
    go false e =
        let cut : length buffer < length t = leb-false (length t) (length buffer) e in
        let size : length (take (length buffer) t) ≡ length buffer = length-take-le (length buffer) t (omega (arith, cut)) in
        let len' : (first_line (take (length buffer) t)).len ≡ length (take (length buffer) t) =
        unended-len (take (length buffer) t) (omega (arith, size)) (one-part (length buffer) one cut)
        in
        too_long (first_line (take (length buffer) t)).len (length (bare t)) used (omega (arith, len', size)) (omega (arith, bare-short t, cut))

-- the bytes of a chunk that belong to the line: all of it, or those through its first byte 10
pub up-to-none : (chunk : List ℕ) {n : ℕ} → n ≡ index_of 10 chunk → length chunk ≤ n → up_to chunk ≡ chunk
unfolding up_to
up-to-none chunk e h = take_all (suc (index_of 10 chunk)) chunk (omega (arith, e))

pub up-to-end : (chunk : List ℕ) {n : ℕ} → n ≡ index_of 10 chunk → n < length chunk → up_to chunk ≡ take (index_of 10 chunk) chunk ++ (10 ∷ [])
unfolding up_to
up-to-end chunk e h =
    take-suc chunk (index_of 10 chunk) 0 (omega (arith, e))
    ∙ ap (λ (b : ℕ). take (index_of 10 chunk) chunk ++ (b ∷ [])) (index_of-found 10 chunk (omega (arith, e)))

up-to-cut : (chunk : List ℕ) {n : ℕ} → n ≡ index_of 10 chunk → take (n + 1) chunk ≡ up_to chunk
unfolding up_to
up-to-cut chunk {n} e = ap (λ (k : ℕ). take k chunk) (add-one n ∙ ap suc e)

-- with its end behind the text under way it is one line
pub one_ended : (text chunk : List ℕ) {n : ℕ} → all not_end text ≡ true → n ≡ index_of 10 chunk → n < length chunk → OneLine (text ++ up_to chunk)
one_ended text chunk u e h =
    subst OneLine
    (append_assoc text (take (index_of 10 chunk) chunk) (10 ∷ []) ∙ ap (λ (l : List ℕ). text ++ l) (sym (up-to-end chunk e h)))
    (ends (text ++ take (index_of 10 chunk) chunk) (all_append not_end text (take (index_of 10 chunk) chunk) u (unended chunk)))

-- what `gather` answers, where the line goes on and where it ends
module _ (chunk : List ℕ) {buffer after : List ℕ} {len n : ℕ} (here : n ≡ index_of 10 chunk) where
  now_held : {u : List ℕ} {r : ℕ} → u ≡ up_to chunk → Appends u buffer len after r → (text : List ℕ) → Filled text buffer len
      → Filled (text ++ up_to chunk) after (min (length (text ++ up_to chunk)) (length buffer))
  now_held {u} {r} e a text f =
      let g : Filled (text ++ up_to chunk) after r = subst (λ (l : List ℕ). Filled (text ++ l) after r) e (a.then text f) in
      subst (λ (k : ℕ). Filled (text ++ up_to chunk) after k) (g.size ∙ ap (min (length (text ++ up_to chunk))) a.room) g

  pub goes_on : {r : ℕ} → length chunk ≤ n → Appends chunk buffer len after r → Gathers buffer len chunk after (More r)
  unfolding gathered
  goes_on {r} h a =
      record {
        room = a.room;
        event = λ text p.
            let g : Filled (text ++ chunk) after r = a.then text p.held in
            let q : r ≡ min (length (text ++ up_to chunk)) (length buffer) =
            g.size ∙ ap (min (length (text ++ chunk))) a.room ∙ ap (λ (l : List ℕ). min (length (text ++ l)) (length buffer)) (sym (up-to-none chunk here h))
            in
            rw (le-ltb (index_of 10 chunk) (length chunk) (omega (arith, here))) (ap More q);
        held = λ text p. now_held (sym (up-to-none chunk here h)) a text p.held;
      }

  pub comes_to_end : {r : ℕ} {e : Event} → n < length chunk → Appends (take (n + 1) chunk) buffer len after r → e ≡ event_in (take r after) (n + 1)
      → Gathers buffer len chunk after e
  unfolding gathered
  comes_to_end {r} {e} h a is =
      record {
        room = a.room;
        event = λ text p.
            let f : Filled (text ++ up_to chunk) after r = subst (λ (l : List ℕ). Filled (text ++ l) after r) (up-to-cut chunk here) (a.then text p.held) in
            let q : n + 1 ≡ suc (index_of 10 chunk) = add-one n ∙ ap suc here in
            rw (lt-ltb (index_of 10 chunk) (length chunk) (omega (arith, here)))
            (is
            ∙ told (text ++ up_to chunk) after r (n + 1) f (omega (arith, p.room, a.room)) (one_ended text chunk p.unended here h)
            ∙ ap (ended (length (bare (text ++ up_to chunk)))) q);
        held = λ text p. now_held (up-to-cut chunk here) a text p.held;
      }

-- what `finish` answers
pub at_end_none : (text buffer : List ℕ) (len : ℕ) → len ≡ 0 → Pending text buffer len → More 0 ≡ finished text
unfolding finished
at_end_none [] buffer len e p = refl
at_end_none (b ∷ text) buffer len e p = absurd (omega (arith, p.held.size, p.room))

pub at_end : (text buffer : List ℕ) (len : ℕ) {r : Event} → (len ≡ 0 → ⊥) → Pending text buffer len → r ≡ event_in (take len buffer) 0 → r ≡ finished text
unfolding finished
at_end [] buffer len n p e = absurd (n (omega (arith, p.held.size)))
at_end (b ∷ text) buffer len n p e = e ∙ told (b ∷ text) buffer len 0 p.held p.room (last b text p.unended)
