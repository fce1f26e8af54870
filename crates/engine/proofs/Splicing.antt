-- A good text (refusal 4 does not meet it) stays good where plain bytes take the place of what stands between two ASCII bytes, or behind the last:
-- no character reaches across an ASCII byte, so what is before it and what is behind it are judged apart.
use Prim.Native.Nat.{ℕ, zero, suc, ◌≤◌, ◌<◌}
use mathlib.Core.Path.{◌≡◌, refl, ap, sym, ◌∙◌}
use mathlib.Core.Bool.{Bool, true, false, not, ◌&&◌, and-false, and-eq-true_iff}
use mathlib.Core.List.{List, [], ◌∷◌, ◌++◌, reverse, append_assoc, append-nil, reverse-append, reverse-cons}
use native.Mathlib.Omega.{arith}
use lib.Dec.{leb, eqb}
use lib.ListN.{length, length-append}
use borrow.Author.Tests.{le-leb, lt-leb, eq-eqb, ne_eqb, leb-true}
use Rattle.text.specs.Range.{within}
use Rattle.text.specs.Utf8.{lead_of, expects, rest, utf8}
use Rattle.text.specs.Bytes.{lacks}
use Rattle.text.specs.White.{white_space, begins, white1, width, opening, closing, at, run, leading, trailing}
use Rattle.text.specs.Good.{good_text}
use Rattle.text.specs.Range.{every}
use Rattle.text.proofs.GoodText.{good}
use Rattle.engine.proofs.Parts.{by_cond, both_true}
use Rattle.text.specs.declared.utf8.Lead.{Lead}

-- `plain` bytes: visible ASCII
abbrev pub plain : ℕ → Bool
plain b = within 33 126 b

abbrev pub all_plain : List ℕ → Bool
all_plain [] = true
all_plain (b ∷ s) = plain b && all_plain s

-- one or more of them
pub record Plain (s : List ℕ) : Type 0 where
  pub bytes : all_plain s ≡ true
  pub some : 0 < length s

pub plain-append : (s t : List ℕ) → all_plain s ≡ true → all_plain t ≡ true → all_plain (s ++ t) ≡ true
plain-append [] t e d = d
plain-append (b ∷ s) t e d =
    let h = (and-eq-true_iff (plain b) (all_plain s)).0 e in
    (and-eq-true_iff (plain b) (all_plain (s ++ t))).1 (h.0, plain-append s t h.1 d)

-- an ASCII byte is a character of its own
ascii-lead : (x : ℕ) → x < 128 → lead_of x ≡ expects 0 0x80 0xBF
unfolding lead_of
ascii-lead x h = rw (le-leb x 0x7F (omega arith))

-- and no other byte of a character
abbrev Outside : ℕ → Lead → Type 0
Outside x l = within l.low l.high x ≡ false

below : (low high x : ℕ) → x < low → within low high x ≡ false
below low high x h = rw (lt-leb low x h)

nowhere : (x : ℕ) → within 1 0 x ≡ false
nowhere zero = refl
nowhere (suc x) = ap (λ (t : Bool). leb 1 (suc x) && t) (lt-leb (suc x) 0 (omega arith)) ∙ and-false (leb 1 (suc x))

ascii-outside : (x : ℕ) → x < 128 → (b : ℕ) → Outside x (lead_of b)
unfolding lead_of
ascii-outside x h b =
    let low : within 0x80 0xBF x ≡ false = below 0x80 0xBF x h in
    by_cond (Outside x) (leb b 0x7F) low
    (by_cond (Outside x) (within 0xC2 0xDF b) low
    (by_cond (Outside x) (eqb b 0xE0) (below 0xA0 0xBF x (omega arith))
    (by_cond (Outside x) (within 0xE1 0xEC b) low
    (by_cond (Outside x) (eqb b 0xED) (below 0x80 0x9F x h)
    (by_cond (Outside x) (within 0xEE 0xEF b) low
    (by_cond (Outside x) (eqb b 0xF0) (below 0x90 0xBF x (omega arith))
    (by_cond (Outside x) (within 0xF1 0xF3 b) low
    (by_cond (Outside x) (eqb b 0xF4) (below 0x80 0x8F x h) (nowhere x)))))))))

-- UTF-8 on both sides of an ASCII byte
and_assoc : (a b c : Bool) → (a && (b && c)) ≡ (a && b && c)
and_assoc true b c = refl
and_assoc false b c = refl

rest_at : (k low high : ℕ) (p : List ℕ) (x : ℕ) (s : List ℕ) → x < 128 → within low high x ≡ false → rest k low high (p ++ x ∷ s) ≡ (rest k low high p && utf8 s)
unfolding rest utf8
rest_at zero low high [] x s h e = ap (λ (l : Lead). rest l.tail l.low l.high s) (ascii-lead x h)
rest_at (suc k) low high [] x s h e = ap (λ (t : Bool). t && rest k 0x80 0xBF s) e
rest_at zero low high (b ∷ p) x s h e = rest_at (lead_of b).tail (lead_of b).low (lead_of b).high p x s h (ascii-outside x h b)
rest_at (suc k) low high (b ∷ p) x s h e =
    ap (λ (t : Bool). within low high b && t) (rest_at k 0x80 0xBF p x s h (below 0x80 0xBF x h))
    ∙ and_assoc (within low high b) (rest k 0x80 0xBF p) (utf8 s)

pub utf8-at : (p : List ℕ) (x : ℕ) (s : List ℕ) → x < 128 → utf8 (p ++ x ∷ s) ≡ (utf8 p && utf8 s)
unfolding utf8
utf8-at p x s h = rest_at 0 0x80 0xBF p x s h (below 0x80 0xBF x h)

-- bytes 10 and 13
lacks-cons : (b a : ℕ) (s : List ℕ) → lacks b (a ∷ s) ≡ (not (eqb a b) && lacks b s)
unfolding every
lacks-cons b a s = refl

lacks-nil : (b : ℕ) → lacks b [] ≡ true
unfolding every
lacks-nil b = refl

good-lacks : (s : List ℕ) → good_text s ≡ true → (lacks 10 s ≡ true) × (lacks 13 s ≡ true)
unfolding good_text
good-lacks s e =
    let a = (and-eq-true_iff (utf8 s && lacks 10 s && lacks 13 s && eqb (leading s) 0) (eqb (trailing s) 0)).0 e in
    let b = (and-eq-true_iff (utf8 s && lacks 10 s && lacks 13 s) (eqb (leading s) 0)).0 a.0 in
    let c = (and-eq-true_iff (utf8 s && lacks 10 s) (lacks 13 s)).0 b.0 in
    (((and-eq-true_iff (utf8 s) (lacks 10 s)).0 c.0).1, c.1)

lacks-append : (b : ℕ) (p s : List ℕ) → lacks b (p ++ s) ≡ (lacks b p && lacks b s)
lacks-append b [] s = ap (λ (t : Bool). t && lacks b s) (sym (lacks-nil b))
lacks-append b (a ∷ p) s =
    lacks-cons b a (p ++ s) ∙ ap (λ (t : Bool). not (eqb a b) && t) (lacks-append b p s)
    ∙ and_assoc (not (eqb a b)) (lacks b p) (lacks b s) ∙ ap (λ (t : Bool). t && lacks b s) (sym (lacks-cons b a p))

-- what two texts lack, the two in a row lack, and the other way round
pub lacks-left : (b : ℕ) (p s : List ℕ) → lacks b (p ++ s) ≡ true → lacks b p ≡ true
lacks-left b p s e = ((and-eq-true_iff (lacks b p) (lacks b s)).0 (sym (lacks-append b p s) ∙ e)).0

pub lacks-right : (b : ℕ) (p s : List ℕ) → lacks b (p ++ s) ≡ true → lacks b s ≡ true
lacks-right b p s e = ((and-eq-true_iff (lacks b p) (lacks b s)).0 (sym (lacks-append b p s) ∙ e)).1

pub lacks_both : (b : ℕ) (p s : List ℕ) → lacks b p ≡ true → lacks b s ≡ true → lacks b (p ++ s) ≡ true
lacks_both b p s e d = lacks-append b p s ∙ (and-eq-true_iff (lacks b p) (lacks b s)).1 (e, d)

-- a test of three bytes that looks no further than an ASCII byte among the first two
record Apart (f : ℕ → ℕ → ℕ → ℕ) (x : ℕ) : Type 0 where
  first : (b c b' c' : ℕ) → f x b c ≡ f x b' c'
  second : (a c c' : ℕ) → f a x c ≡ f a x c'

lead_none : (x : ℕ) → x < 128 → (b : ℕ) → (begins 1 x b ≡ false) × (begins 2 x b ≡ false)
unfolding begins
lead_none x h b = (
  ap (λ (l : Lead). eqb l.tail 1 && within l.low l.high b) (ascii-lead x h),
  ap (λ (l : Lead). eqb l.tail 2 && within l.low l.high b) (ascii-lead x h),
)

tail_none : (x : ℕ) → x < 128 → (tail a : ℕ) → begins tail a x ≡ false
unfolding begins
tail_none x h tail a =
    ap (λ (t : Bool). eqb (lead_of a).tail tail && t) (ascii-outside x h a) ∙ and-false (eqb (lead_of a).tail tail)

width_of : (one : Bool) {two three : Bool} → two ≡ false → three ≡ false → width one two three ≡ width one false false
width_of one {two} {three} e d = ap (λ (t : Bool). width one t three) e ∙ ap (λ (t : Bool). width one false t) d

and_none : {t : Bool} (u : Bool) → t ≡ false → (t && u) ≡ false
and_none u e = ap (λ (t : Bool). t && u) e

none-and : (t : Bool) {u : Bool} → u ≡ false → (t && u) ≡ false
none-and t e = ap (λ (u : Bool). t && u) e ∙ and-false t

opening-first : (x : ℕ) → x < 128 → (b c : ℕ) → opening x b c ≡ width (white1 x) false false
opening-first x h b c =
    let n = lead_none x h b in
    width_of (white1 x) (and_none _ n.0) (and_none _ (and_none _ n.1))

opening-second : (x : ℕ) → x < 128 → (a c : ℕ) → opening a x c ≡ width (white1 a) false false
opening-second x h a c = width_of (white1 a) (and_none _ (tail_none x h 1 a)) (and_none _ (and_none _ (tail_none x h 2 a)))

closing-first : (x : ℕ) → x < 128 → (b a : ℕ) → closing x b a ≡ width (white1 x) false false
closing-first x h b a = width_of (white1 x) (and_none _ (tail_none x h 1 b)) (and_none _ (none-and (begins 2 a b) (below 0x80 0xBF x h)))

closing-second : (x : ℕ) → x < 128 → (c a : ℕ) → closing c x a ≡ width (white1 c) false false
closing-second x h c a = width_of (white1 c) (and_none _ (lead_none x h c).0) (and_none _ (and_none _ (tail_none x h 2 a)))

opening-apart : (x : ℕ) → x < 128 → Apart opening x
opening-apart x h = record {
  first = λ b c b' c'. opening-first x h b c ∙ sym (opening-first x h b' c');
  second = λ a c c'. opening-second x h a c ∙ sym (opening-second x h a c');
}

closing-apart : (x : ℕ) → x < 128 → Apart closing x
closing-apart x h = record {
  first = λ b c b' c'. closing-first x h b c ∙ sym (closing-first x h b' c');
  second = λ a c c'. closing-second x h a c ∙ sym (closing-second x h a c');
}

module _ (f : ℕ → ℕ → ℕ → ℕ) where
  at_same : (x : ℕ) → Apart f x → (p s s' : List ℕ) → at f (p ++ x ∷ s) ≡ at f (p ++ x ∷ s')
  at_same x g [] s s' = g.first _ _ _ _
  at_same x g (a ∷ []) s s' = g.second _ _ _
  at_same x g (a ∷ b ∷ []) s s' = refl
  at_same x g (a ∷ b ∷ c ∷ p) s s' = refl

  -- no white space at the front is a test of the first bytes
  none-at : (l : List ℕ) → 0 < length l → run f 0 l ≡ 0 → at f l ≡ 0
  unfolding run
  none-at [] h e = absurd (omega arith)
  none-at (a ∷ l) h e = go (at f (a ∷ l)) refl e
    where
      go : (w : ℕ) → at f (a ∷ l) ≡ w → ◌≡◌ {A = ℕ} (elim w [ zero ↦ 0 | suc k ↦ suc (run f k l) ]) 0 → at f (a ∷ l) ≡ 0
      go zero d e = d
      go (suc k) d e = absurd (omega arith)

  at_none : (l : List ℕ) → at f l ≡ 0 → run f 0 l ≡ 0
  unfolding run
  at_none [] e = refl
  at_none (a ∷ l) e = ap (λ (w : ℕ). elim w [ zero ↦ 0 | suc k ↦ suc (run f k l) ]) e

  run-same : (x : ℕ) → Apart f x → (p s s' : List ℕ) → run f 0 (p ++ x ∷ s) ≡ 0 → run f 0 (p ++ x ∷ s') ≡ 0
  run-same x g p s s' e =
      at_none (p ++ x ∷ s')
      (sym (at_same x g p s s') ∙ none-at (p ++ x ∷ s) (omega (arith, length-append p (x ∷ s))) e)

backwards : (u : List ℕ) (y : ℕ) (v : List ℕ) → reverse (u ++ y ∷ v) ≡ reverse v ++ y ∷ reverse u
backwards u y v =
    reverse-append u (y ∷ v) ∙ ap (λ (l : List ℕ). l ++ reverse u) (reverse-cons y v) ∙ append_assoc (reverse v) (y ∷ []) (reverse u)

-- what stands behind an ASCII byte does not change the front, and what stands before one does not change the end
pub leading-same : (p : List ℕ) (x : ℕ) (s s' : List ℕ) → x < 128 → leading (p ++ x ∷ s) ≡ 0 → leading (p ++ x ∷ s') ≡ 0
unfolding leading
leading-same p x s s' h e = run-same opening x (opening-apart x h) p s s' e

pub trailing-same : (u u' : List ℕ) (y : ℕ) (v : List ℕ) → y < 128 → trailing (u ++ y ∷ v) ≡ 0 → trailing (u' ++ y ∷ v) ≡ 0
unfolding trailing
trailing-same u u' y v h e =
    ap (run closing 0) (backwards u' y v)
    ∙ run-same closing y (closing-apart y h) (reverse v) (reverse u) (reverse u') (ap (run closing 0) (sym (backwards u y v)) ∙ e)

-- plain bytes
plain-from : (b : ℕ) → plain b ≡ true → 33 ≤ b
plain-from b e = leb-true 33 b (both_true (leb 33 b) (leb b 126) e).0

plain-to : (b : ℕ) → plain b ≡ true → b ≤ 126
plain-to b e = leb-true b 126 (both_true (leb 33 b) (leb b 126) e).1

plain-white : (b : ℕ) → plain b ≡ true → white1 b ≡ false
unfolding white_space
plain-white b e =
    let low = plain-from b e in
    let high = plain-to b e in
    none-and (leb b 0x7F)
    (rw (
      lt-leb b 0x000D (omega arith),
      and-false (leb 0x0009 b),
      ne_eqb b 0x0020 (λ q. omega arith),
      ne_eqb b 0x0085 (λ q. omega arith),
      ne_eqb b 0x00A0 (λ q. omega arith),
      ne_eqb b 0x1680 (λ q. omega arith),
      lt-leb 0x2000 b (omega arith),
      ne_eqb b 0x2028 (λ q. omega arith),
      ne_eqb b 0x2029 (λ q. omega arith),
      ne_eqb b 0x202F (λ q. omega arith),
      ne_eqb b 0x205F (λ q. omega arith),
      ne_eqb b 0x3000 (λ q. omega arith),
    ))

utf8-none : (t : Bool) → (utf8 [] && t) ≡ t
unfolding utf8 rest
utf8-none t = refl

utf8-empty : utf8 [] ≡ true
unfolding utf8 rest
utf8-empty = refl

utf8-plain : (m s : List ℕ) → all_plain m ≡ true → utf8 (m ++ s) ≡ utf8 s
utf8-plain [] s e = refl
utf8-plain (b ∷ m) s e =
    let h = both_true (plain b) (all_plain m) e in
    let c = plain-to b h.0 in
    utf8-at [] b (m ++ s) (omega arith) ∙ utf8-none (utf8 (m ++ s)) ∙ utf8-plain m s h.1

utf8-all : (m : List ℕ) → all_plain m ≡ true → utf8 m ≡ true
utf8-all m e = ap utf8 (sym (append-nil m)) ∙ utf8-plain m [] e ∙ utf8-empty

lacks-plain : (b : ℕ) (m : List ℕ) → b < 33 → all_plain m ≡ true → lacks b m ≡ true
lacks-plain b [] h e = lacks-nil b
lacks-plain b (a ∷ m) h e =
    let g = both_true (plain a) (all_plain m) e in
    let c = plain-from a g.0 in
    lacks-cons b a m ∙ rw (ne_eqb a b (λ q. omega arith)) (lacks-plain b m h g.1)

trailing-plain : (u : List ℕ) (m : List ℕ) → 0 < length m → all_plain m ≡ true → trailing (u ++ m) ≡ 0
unfolding trailing
trailing-plain u [] h e = absurd (omega arith)
trailing-plain u (b ∷ []) h e =
    let g = (both_true (plain b) true e).0 in
    let c = plain-to b g in
    ap (run closing 0) (backwards u b [])
    ∙ at_none closing (b ∷ reverse u) (closing-first b (omega arith) _ _ ∙ ap (λ (t : Bool). width t false false) (plain-white b g))
trailing-plain u (b ∷ d ∷ m) h e =
    ap trailing (sym (append_assoc u (b ∷ []) (d ∷ m)))
    ∙ trailing-plain (u ++ (b ∷ [])) (d ∷ m) (omega arith) (both_true (plain b) (all_plain (d ∷ m)) e).1

-- a text put together again
module _ (p : List ℕ) (x : ℕ) (ascii : x < 128) where
  joins : (s : List ℕ) → (p ++ (x ∷ [])) ++ s ≡ p ++ x ∷ s
  joins s = append_assoc p (x ∷ []) s

  front-lacks : (b : ℕ) (s : List ℕ) → lacks b (p ++ x ∷ s) ≡ true → lacks b (p ++ (x ∷ [])) ≡ true
  front-lacks b s e = lacks-left b (p ++ (x ∷ [])) s (ap (lacks b) (joins s) ∙ e)

  rest-lacks : (b : ℕ) (s : List ℕ) → lacks b (p ++ x ∷ s) ≡ true → lacks b s ≡ true
  rest-lacks b s e = lacks-right b (p ++ (x ∷ [])) s (ap (lacks b) (joins s) ∙ e)

  joined-lacks : (b : ℕ) (s s' : List ℕ) → lacks b (p ++ x ∷ s) ≡ true → lacks b s' ≡ true → lacks b (p ++ x ∷ s') ≡ true
  joined-lacks b s s' e d = ap (lacks b) (sym (joins s')) ∙ lacks_both b (p ++ (x ∷ [])) s' (front-lacks b s e) d

  -- what stands behind an ASCII byte may be exchanged, if it is UTF-8, lacks bytes 10 and 13, and has no white space at its end
  exchanged : (s s' : List ℕ) → good_text (p ++ x ∷ s) ≡ true → utf8 s' ≡ true → lacks 10 s' ≡ true → lacks 13 s' ≡ true → trailing (p ++ x ∷ s') ≡ 0 → good_text (p ++ x ∷ s') ≡ true
  unfolding good_text
  exchanged s s' g u l r e =
      let was = good (p ++ x ∷ s) g in
      let front : utf8 p ≡ true = (both_true (utf8 p) (utf8 s) (sym (utf8-at p x s ascii) ∙ was.encoded)).0 in
      let code : utf8 (p ++ x ∷ s') ≡ true = utf8-at p x s' ascii ∙ (and-eq-true_iff (utf8 p) (utf8 s')).1 (front, u) in
      rw (
        code,
        joined-lacks 10 s s' (good-lacks (p ++ x ∷ s) g).0 l,
        joined-lacks 13 s s' (good-lacks (p ++ x ∷ s) g).1 r,
        eq-eqb _ _ (leading-same p x s s' ascii was.front),
        eq-eqb _ _ e,
      )

  -- plain bytes in place of all that stands behind an ASCII byte
  pub splice_end : (m m' : List ℕ) → Plain m' → good_text (p ++ x ∷ m) ≡ true → good_text (p ++ x ∷ m') ≡ true
  splice_end m m' e g =
      exchanged m m' g (utf8-all m' e.bytes) (lacks-plain 10 m' (omega arith) e.bytes) (lacks-plain 13 m' (omega arith) e.bytes)
      (ap trailing (sym (joins m')) ∙ trailing-plain (p ++ (x ∷ [])) m' e.some e.bytes)

  -- plain bytes in place of what stands between two ASCII bytes
  pub splice_middle : (m m' : List ℕ) (y : ℕ) (q : List ℕ) → y < 128 → Plain m' → good_text (p ++ x ∷ (m ++ y ∷ q)) ≡ true → good_text (p ++ x ∷ (m' ++ y ∷ q)) ≡ true
  splice_middle m m' y q h e g =
      let was = good (p ++ x ∷ (m ++ y ∷ q)) g in
      let tail : utf8 (m ++ y ∷ q) ≡ true = (both_true (utf8 p) (utf8 (m ++ y ∷ q)) (sym (utf8-at p x (m ++ y ∷ q) ascii) ∙ was.encoded)).1 in
      let end : utf8 q ≡ true = (both_true (utf8 m) (utf8 q) (sym (utf8-at m y q h) ∙ tail)).1 in
      let keeps : (b : ℕ) → b < 33 → lacks b (p ++ x ∷ (m ++ y ∷ q)) ≡ true → lacks b (m' ++ y ∷ q) ≡ true =
      λ b small d. lacks_both b m' (y ∷ q) (lacks-plain b m' small e.bytes) (lacks-right b m (y ∷ q) (rest-lacks b (m ++ y ∷ q) d))
      in
      exchanged (m ++ y ∷ q) (m' ++ y ∷ q) g
      (utf8-plain m' (y ∷ q) e.bytes ∙ utf8-at [] y q h ∙ utf8-none (utf8 q) ∙ end)
      (keeps 10 (omega arith) (good-lacks (p ++ x ∷ (m ++ y ∷ q)) g).0)
      (keeps 13 (omega arith) (good-lacks (p ++ x ∷ (m ++ y ∷ q)) g).1)
      (ap trailing (sym (append_assoc p (x ∷ m') (y ∷ q)))
      ∙ trailing-same (p ++ x ∷ m) (p ++ x ∷ m') y q h (ap trailing (append_assoc p (x ∷ m) (y ∷ q)) ∙ was.end))
