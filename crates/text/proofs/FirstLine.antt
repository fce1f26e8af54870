-- Laws of lines: the first line is what stands before the first byte 10, with that byte; without its end it is a front of the text.
use mathlib.Core.Path.{◌≡◌, refl, sym, ◌∙◌, ap}
use mathlib.Core.Bool.{Bool, true, false, cond}
use mathlib.Core.List.{List, [], ◌∷◌, ◌++◌, append_assoc}
use Prim.Native.Nat.{ℕ, suc, ◌+◌, ◌-◌, ◌≤◌, ◌<◌}
use native.Mathlib.Omega.{arith}
use borrow.Author.Tests.{eq-eqb, ne_eqb, ltb-true, ltb-false}
use lib.Dec.{eqb, ltb}
use lib.ListN.{length, take, drop, get_or, length-append}
use lib.Seq.{take-length, drop-length, length-take-le, get_or-take, take-take, take-append_seam, get_or-append_seam}
use Rattle.text.specs.Bytes.{index_of, first_place, headed}
use Rattle.text.specs.Lines.{before, lines, without, bare, line_of, first_line}
use Rattle.text.specs.declared.lines.Line.{Line}
use Rattle.text.proofs.Finding.{index_of-found, index_of-before, index_of-le, place-is, place-next, place_here, headed-is, headed-not}

-- the first n bytes of a text without a last byte b
module _ (s : List ℕ) (n : ℕ) (some : n ≡ 0 → ⊥) (room : n ≤ length s) where
  last_of : get_or (take n s) (length (take n s) - 1) 0 ≡ get_or s (n - 1) 0
  last_of =
      let l : length (take n s) ≡ n = length-take-le n s room in
      let g : n - 1 < n = omega (arith, some) in
      ap (λ (k : ℕ). get_or (take n s) (k - 1) 0) l ∙ get_or-take n s (n - 1) 0 g

  init-of : take (length (take n s) - 1) (take n s) ≡ take (n - 1) s
  init-of =
      let l : length (take n s) ≡ n = length-take-le n s room in
      ap (λ (k : ℕ). take (k - 1) (take n s)) l ∙ take-take (n - 1) n s (omega arith)

  bare-ended : get_or s (n - 1) 0 ≡ 10 → bare (take n s) ≡ without 13 (take (n - 1) s)
  unfolding bare
  bare-ended e = ap (λ (t : Bool). cond t (without 13 (take (length (take n s) - 1) (take n s))) (take n s)) (eq-eqb _ 10 (last_of ∙ e)) ∙ ap (without 13) init-of

same_of : {A : Type 0} (t : Bool) (a : A) → cond t a a ≡ a
same_of true a = refl
same_of false a = refl

without-nil : (b : ℕ) → without b [] ≡ []
unfolding without
without-nil b = same_of (eqb 0 b) []

-- a line whose last byte is b, one that is empty, and any other
pub without-at : (l : List ℕ) (b : ℕ) → get_or l (length l - 1) 0 ≡ b → without b l ≡ take (length l - 1) l
unfolding without
without-at l b e = rw (eq-eqb _ b e)

pub without-short : (l : List ℕ) (b : ℕ) → length l < 1 → without b l ≡ l
without-short [] b h = without-nil b
without-short (a ∷ l) b h = absurd (omega arith)

pub without-other : (l : List ℕ) (b : ℕ) → (get_or l (length l - 1) 0 ≡ b → ⊥) → without b l ≡ l
unfolding without
without-other l b e = rw (ne_eqb _ b e)

-- `without` takes a front
pub record Front (l m : List ℕ) : Type 0 where
  pub short : length m ≤ length l
  pub part : take (length m) l ≡ m

front-all : (l : List ℕ) → Front l l
front-all l = record { short = omega arith; part = take-length l }

front-take : (l : List ℕ) (n : ℕ) → n ≤ length l → Front l (take n l)
front-take l n h = let e : length (take n l) ≡ n = length-take-le n l h in record { short = omega (arith, e); part = ap (λ (k : ℕ). take k l) e }

front-cond : (t : Bool) (l : List ℕ) {m n : List ℕ} → Front l m → Front l n → Front l (cond t m n)
front-cond true l f g = f
front-cond false l f g = g

front-trans : {l m n : List ℕ} → Front l m → Front m n → Front l n
front-trans {l} {m} {n} f g = record {
  short = omega (arith, f.short, g.short);
  part = sym (take-take (length n) (length m) l g.short) ∙ ap (take (length n)) f.part ∙ g.part;
}

without-front : (b : ℕ) (l : List ℕ) → Front l (without b l)
unfolding without
without-front b l = front-cond (eqb (get_or l (length l - 1) 0) b) l (front-take l (length l - 1) (omega arith)) (front-all l)

pub bare-front : (l : List ℕ) → Front l (bare l)
unfolding bare
bare-front l =
    front-cond (eqb (get_or l (length l - 1) 0) 10) l
    (front-trans (front-take l (length l - 1) (omega arith)) (without-front 13 (take (length l - 1) l)))
    (front-all l)

-- a text with an end: its first line is all that stands before byte 10, and that byte
cut_step : (b : ℕ) (s : List ℕ) (t : Bool) (n : ℕ) → (n < length s → lines s ≡ take (suc n) s ∷ lines (drop (suc n) s))
    → cond t 0 (suc n) < suc (length s)
    → before t b (lines s) ≡ take (suc (cond t 0 (suc n))) (b ∷ s) ∷ lines (drop (suc (cond t 0 (suc n))) (b ∷ s))
cut_step b s true n k h = refl
cut_step b s false n k h = ap (before false b) (k (omega arith))

cut : (s : List ℕ) → index_of 10 s < length s → lines s ≡ take (suc (index_of 10 s)) s ∷ lines (drop (suc (index_of 10 s)) s)
unfolding lines index_of first_place
cut [] h = absurd (omega arith)
cut (b ∷ s) h = cut_step b s (eqb b 10) (index_of 10 s) (cut s) h

-- a text without an end is one line
whole-step : (b : ℕ) (s : List ℕ) (t : Bool) (n : ℕ) → (0 < length s → length s ≤ n → lines s ≡ s ∷ []) → suc (length s) ≤ cond t 0 (suc n) → before t b (lines s) ≡ (b ∷ s) ∷ []
unfolding lines
whole-step b s true n k h = absurd (omega arith)
whole-step b [] false n k h = refl
whole-step b (a ∷ s) false n k h = ap (before false b) (k (omega arith) (omega arith))

whole : (s : List ℕ) → 0 < length s → length s ≤ index_of 10 s → lines s ≡ s ∷ []
unfolding lines index_of first_place
whole [] g h = absurd (omega arith)
whole (b ∷ s) g h = whole-step b s (eqb b 10) (index_of 10 s) (whole s) h

bare-whole : (s : List ℕ) → 0 < length s → length s ≤ index_of 10 s → bare s ≡ s
unfolding bare
bare-whole s g h = ap (λ (t : Bool). cond t (without 13 (take (length s - 1) s)) s) (ne_eqb _ 10 (index_of-before 10 s (length s - 1) (omega arith)))

no_lines : lines [] ≡ []
unfolding lines
no_lines = refl

-- what `first_line` answers
first_of : (s l : List ℕ) (ls : List (List ℕ)) {m n : ℕ} → lines s ≡ l ∷ ls → m ≡ length (bare l) → n ≡ length l → record { len = m; next = n } ≡ first_line s
unfolding first_line
first_of s l ls {m} {n} c p q = ap (λ (k : ℕ). record { len = k; next = n }) p ∙ ap (λ (k : ℕ). record { len = length (bare l); next = k }) q ∙ sym (ap line_of c)

pub no_end : (s : List ℕ) {n : ℕ} → n ≡ index_of 10 s → length s ≤ n → record { len = n; next = n } ≡ first_line s
unfolding first_line lines index_of first_place
no_end [] {n} e h = ap (λ (k : ℕ). record { len = k; next = k }) e
no_end (b ∷ s) {n} e h =
    let m : n ≡ length (b ∷ s) = omega (arith, e, index_of-le 10 (b ∷ s)) in
    let g : length (b ∷ s) ≤ index_of 10 (b ∷ s) = omega (arith, e) in
    first_of (b ∷ s) (b ∷ s) [] (whole (b ∷ s) (omega arith) g) (m ∙ ap length (sym (bare-whole (b ∷ s) (omega arith) g))) m

pub at-end : (s : List ℕ) {n m : ℕ} → n ≡ index_of 10 s → n < length s → m ≡ length (without 13 (take n s)) → record { len = m; next = n + 1 } ≡ first_line s
at-end s {n} {m} e h q =
    let g : index_of 10 s < length s = omega (arith, e) in
    let x : suc n - 1 ≡ n = omega arith in
    let y : n + 1 ≡ suc n = omega arith in
    let v : get_or s (suc n - 1) 0 ≡ 10 = ap (λ (j : ℕ). get_or s j 0) (x ∙ e) ∙ index_of-found 10 s g in
    let w : bare (take (suc n) s) ≡ without 13 (take n s) = bare-ended s (suc n) (λ f. omega (arith, f)) (omega arith) v ∙ ap (λ (j : ℕ). without 13 (take j s)) x in
    first_of s (take (suc n) s) (lines (drop (suc n) s))
    (cut s g ∙ ap (λ (j : ℕ). take (suc j) s ∷ lines (drop (suc j) s)) (sym e)) (q ∙ sym (ap length w)) (y ∙ sym (length-take-le (suc n) s h))

-- an empty line, of its end alone
pub at-once : (s : List ℕ) → 0 < length s → get_or s 0 0 ≡ 10 → record { len = 0; next = 1 } ≡ first_line s
unfolding index_of
at-once s h e =
    let i : 0 ≡ index_of 10 s = sym (place-is (headed 10) s 0 h (headed-is s 0 10 e) (λ k g. absurd (omega arith))) in
    at-end s {n = 0} {m = 0} i h (sym (ap length (without-nil 13)))

pub at-second : (s : List ℕ) → 1 < length s → get_or s 0 0 ≡ 13 → get_or s 1 0 ≡ 10 → record { len = 0; next = 2 } ≡ first_line s
unfolding index_of
at-second s h e f =
    let t : List ℕ = take 1 s in
    let l : length t ≡ 1 = length-take-le 1 s (omega arith) in
    let other : get_or s 0 0 ≡ 10 → ⊥ = λ q. omega (arith, e, q) in
    let next = place-next (headed 10) s 0 (omega arith) (headed-not s 0 10 other) (omega arith) in
    let i : 1 ≡ index_of 10 s = sym (place_here (headed 10) s 1 h (headed-is s 1 10 f) next) in
    let g : get_or t (length t - 1) 0 ≡ 13 = ap (λ (k : ℕ). get_or t (k - 1) 0) l ∙ get_or-take 1 s 0 0 (omega arith) ∙ e in
    let m : length (take (length t - 1) t) ≡ length t - 1 = length-take-le (length t - 1) t (omega arith) in
    at-end s {n = 1} {m = 0} i h (omega (arith, l, m, ap length (without-at t 13 g)))

-- what the first line r of a text is to its lines
pub record Joined (s : List ℕ) (r : Line) : Type 0 where
  pub cut_off : lines s ≡ take r.next s ∷ lines (drop r.next s)
  pub text : bare (take r.next s) ≡ take r.len s
  pub some : 0 < r.next
  pub inside : r.next ≤ length s
  pub short : r.len ≤ r.next

joined_at : (s : List ℕ) (k : ℕ) {r : Line} → 0 < k → k ≤ length s → lines s ≡ take k s ∷ lines (drop k s) → r ≡ first_line s → Joined s r
unfolding first_line
joined_at s k {r} h g c e =
    let q : r ≡ line_of (take k s ∷ lines (drop k s)) = e ∙ ap line_of c in
    let n : r.next ≡ k = ap (λ (x : Line). x.next) q ∙ length-take-le k s g in
    let m : r.len ≡ length (bare (take k s)) = ap (λ (x : Line). x.len) q in
    let f : Front (take k s) (bare (take k s)) = bare-front (take k s) in
    record {
      cut_off = c ∙ ap (λ (j : ℕ). take j s ∷ lines (drop j s)) (sym n);
      text = ap (λ (j : ℕ). bare (take j s)) n ∙ sym f.part ∙ ap (λ (j : ℕ). take j (take k s)) (sym m) ∙ take-take r.len k s (omega (arith, m, f.short, length-take-le k s g));
      some = omega (arith, n);
      inside = omega (arith, n);
      short = omega (arith, n, m, f.short, length-take-le k s g);
    }

pub joined : (s : List ℕ) {r : Line} → 0 < length s → r ≡ first_line s → Joined s r
joined s {r} h e = go (ltb (index_of 10 s) (length s)) refl
  where
    go : (t : Bool) → ltb (index_of 10 s) (length s) ≡ t → Joined s r
    go true u = let g : index_of 10 s < length s = ltb-true (index_of 10 s) (length s) u in joined_at s (suc (index_of 10 s)) (omega arith) (omega arith) (cut s g) e
    go false u =
        let g : length s ≤ index_of 10 s = ltb-false (index_of 10 s) (length s) u in
        joined_at s (length s) h (omega arith) (whole s h g ∙ ap (λ (l : List ℕ). l ∷ []) (sym (take-length s)) ∙ ap (λ (l : List (List ℕ)). take (length s) s ∷ l) (sym (ap lines (drop-length s) ∙ no_lines))) e

-- a line that `build_*` ends with bytes 13 and 10, and a text behind it
one_more : (b : ℕ) (l : List ℕ) (t : Bool) (n : ℕ) → cond t 0 (suc n) ≡ suc (length l) → (t ≡ false) × (n ≡ length l)
one_more b l true n e = absurd (omega (arith, e))
one_more b l false n e = (refl, omega (arith, e))

pub lines-append : (l t : List ℕ) → index_of 10 l ≡ length l → lines (l ++ 13 ∷ 10 ∷ t) ≡ (l ++ 13 ∷ 10 ∷ []) ∷ lines t
unfolding lines index_of first_place
lines-append [] t e = refl
lines-append (b ∷ l) t e =
    let p = one_more b l (eqb b 10) (index_of 10 l) e in
    ap (λ (x : Bool). before x b (lines (l ++ 13 ∷ 10 ∷ t))) p.0 ∙ ap (before false b) (lines-append l t p.1)

without-last : (l : List ℕ) (b : ℕ) → without b (l ++ b ∷ []) ≡ l
unfolding without
without-last l b =
    let n : length (l ++ b ∷ []) - 1 ≡ length l = omega (arith, length-append l (b ∷ [])) in
    let g : get_or (l ++ b ∷ []) (length (l ++ b ∷ []) - 1) 0 ≡ b = ap (λ (k : ℕ). get_or (l ++ b ∷ []) k 0) n ∙ get_or-append_seam l b [] 0 in
    ap (λ (x : Bool). cond x (take (length (l ++ b ∷ []) - 1) (l ++ b ∷ [])) (l ++ b ∷ [])) (eq-eqb _ b g) ∙ ap (λ (k : ℕ). take k (l ++ b ∷ [])) n ∙ take-append_seam l (b ∷ [])

-- a line that ends with byte 10
bare-line : (l : List ℕ) → bare (l ++ 10 ∷ []) ≡ without 13 l
unfolding bare
bare-line l =
    let n : length (l ++ 10 ∷ []) - 1 ≡ length l = omega (arith, length-append l (10 ∷ [])) in
    let g : get_or (l ++ 10 ∷ []) (length (l ++ 10 ∷ []) - 1) 0 ≡ 10 = ap (λ (k : ℕ). get_or (l ++ 10 ∷ []) k 0) n ∙ get_or-append_seam l 10 [] 0 in
    ap (λ (x : Bool). cond x (without 13 (take (length (l ++ 10 ∷ []) - 1) (l ++ 10 ∷ []))) (l ++ 10 ∷ [])) (eq-eqb _ 10 g)
    ∙ ap (λ (k : ℕ). without 13 (take k (l ++ 10 ∷ []))) n ∙ ap (without 13) (take-append_seam l (10 ∷ []))

pub bare-append : (l : List ℕ) → bare (l ++ 13 ∷ 10 ∷ []) ≡ l
bare-append l = ap bare (sym (append_assoc l (13 ∷ []) (10 ∷ []))) ∙ bare-line (l ++ 13 ∷ []) ∙ without-last l 13
