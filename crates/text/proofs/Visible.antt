-- A text of visible ASCII characters is good: each byte is a character, none is an end of line, none is white space.
use mathlib.Core.Path.{◌≡◌, refl, sym, ◌∙◌, ap}
use mathlib.Core.Bool.{Bool, true, false, not, and-eq-true_iff}
use mathlib.Core.List.{List, [], ◌∷◌, reverse}
use Prim.Native.Nat.{ℕ, zero, suc, ◌-◌, ◌≤◌, ◌<◌}
use native.Mathlib.Omega.{arith}
use borrow.Author.Tests.{leb-true, le-leb, ne_eqb, eq-eqb, not-true}
use lib.Dec.{T, leb, eqb}
use lib.ListN.{length, take, get_or}
use Rattle.text.specs.Range.{every}
use Rattle.text.specs.Bytes.{lacks}
use Rattle.text.specs.Utf8.{utf8, ascii}
use Rattle.text.specs.White.{white_space, width, leading, trailing, run}
use Rattle.text.specs.Good.{good_text, visible}
use Rattle.text.proofs.Encoding.{ascii-whole}
use Rattle.text.proofs.Span.{all, span, is_true}
use Rattle.text.proofs.Trimming.{opening-ascii, closing-ascii, leading-stop, trailing-stop, trailing-start, back_at}

-- a test that holds of every byte
every-so : {f g : ℕ → Bool} → ((a : ℕ) → f a ≡ true → g a ≡ true) → (s : List ℕ) → every f s ≡ true → every g s ≡ true
unfolding every
every-so k [] e = refl
every-so {f} {g} k (a ∷ s) e =
    let p = (and-eq-true_iff (f a) (every f s)).0 e in
    (and-eq-true_iff (g a) (every g s)).1 (k a p.0, every-so k s p.1)

every-at : (f : ℕ → Bool) (s : List ℕ) (i : ℕ) → every f s ≡ true → i < length s → f (get_or s i 0) ≡ true
unfolding every
every-at f [] i e h = absurd (omega arith)
every-at f (a ∷ s) zero e h = ((and-eq-true_iff (f a) (every f s)).0 e).0
every-at f (a ∷ s) (suc i) e h = every-at f s i ((and-eq-true_iff (f a) (every f s)).0 e).1 (omega arith)

-- no number from 33 to 126 is white space, by one computed test
dark : T (all (λ (x : ℕ). not (white_space x)) 33 94)
unfolding white_space
dark = tt

-- what a visible byte is not
module _ (a : ℕ) (e : visible a ≡ true) where
  low : 33 ≤ a
  low = leb-true 33 a ((and-eq-true_iff (leb 33 a) (leb a 126)).0 e).0

  high : a ≤ 126
  high = leb-true a 126 ((and-eq-true_iff (leb 33 a) (leb a 126)).0 e).1

  visible-ascii : ascii a ≡ true
  visible-ascii = le-leb a 0x7F (omega (arith, high))

  visible-not : (b : ℕ) → b < 33 → not (eqb a b) ≡ true
  visible-not b h = ap not (ne_eqb a b (λ q. omega (arith, q, low)))

  visible-dark : white_space a ≡ false
  visible-dark = not-true (white_space a) (is_true (not (white_space a)) (span (λ (x : ℕ). not (white_space x)) 94 33 dark a low (omega (arith, high))))

  no_width : width (white_space a) false false ≡ 0
  no_width = ap (λ (t : Bool). width t false false) visible-dark

-- no white space at an end
visible-leading : (s : List ℕ) → every visible s ≡ true → leading s ≡ 0
unfolding leading run
visible-leading [] e = refl
visible-leading (a ∷ s) e =
    let v : visible a ≡ true = every-at visible (a ∷ s) 0 e (omega arith) in
    leading-stop (a ∷ s) 0 {w = 0} (sym (no_width a v) ∙ opening-ascii a (get_or s 0 0) (get_or s 1 0) (leb-true a 0x7F (visible-ascii a v))) refl (omega arith)

visible-trailing : (s : List ℕ) → every visible s ≡ true → trailing s ≡ 0
unfolding trailing run
visible-trailing [] e = refl
visible-trailing (a ∷ s) e =
    let l : List ℕ = a ∷ s in
    let n : ℕ = length l in
    let r : List ℕ = reverse (take n l) in
    let b : get_or r 0 0 ≡ get_or l (n - 1 - 0) 0 = back_at l 0 n (omega arith) (omega arith) in
    let v : visible (get_or r 0 0) ≡ true = ap visible b ∙ every-at visible l (n - 1 - 0) e (omega arith) in
    let z : n - n ≡ 0 = omega arith in
    trailing-stop l n {w = 0} (sym (no_width (get_or r 0 0) v) ∙ closing-ascii (get_or r 0 0) (get_or r 1 0) (get_or r 2 0) (leb-true (get_or r 0 0) 0x7F (visible-ascii (get_or r 0 0) v))) refl (trailing-start l)
    ∙ z

pub visible-good : (s : List ℕ) → every visible s ≡ true → true ≡ good_text s
unfolding good_text
visible-good s e =
    let u : utf8 s ≡ true = sym (ascii-whole s (every-so visible-ascii s e)) in
    let f : lacks 10 s ≡ true = every-so (λ a v. visible-not a v 10 (omega arith)) s e in
    let r : lacks 13 s ≡ true = every-so (λ a v. visible-not a v 13 (omega arith)) s e in
    let p : eqb (leading s) 0 ≡ true = eq-eqb (leading s) 0 (visible-leading s e) in
    let q : eqb (trailing s) 0 ≡ true = eq-eqb (trailing s) 0 (visible-trailing s e) in
    sym (rw (u, f, r, p, q))
