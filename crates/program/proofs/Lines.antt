-- Laws of the input's lines: the line that a chunk ends, the input's last line, and a line of which more has come than is kept.
use mathlib.Core.Path.{◌≡◌, refl, sym, ◌∙◌, ap, subst}
use mathlib.Core.Bool.{Bool, true, false, and-eq-true_iff}
use mathlib.Core.List.{List, [], ◌∷◌, ◌++◌, append_assoc, map}
use Prim.Native.Nat.{ℕ, zero, suc, ◌+◌, ◌-◌, ◌≤◌, ◌<◌}
use native.Mathlib.Omega.{arith}
use borrow.Author.Tests.{lt-leb, leb-true, leb-false, eqb-true, not-true}
use lib.Dec.{eqb, leb}
use lib.ListN.{length, take, drop, get_or, length-append, length-take, take-append-drop}
use lib.Seq.{take_all, take-take}
use Rattle.text.specs.Bytes.{index_of}
use Rattle.text.specs.Lines.{bare}
use Rattle.text.proofs.FirstLine.{bare-front}
use Rattle.console.specs.Each.{all}
use Rattle.console.specs.Buffer.{Filled}
use Rattle.console.specs.Input.{line_max, Heard, Text, Unheard, heard, input, not_end, up_to}
use Rattle.console.proofs.Gathering.{all_append, unended, lines-ended, lines-last, bare-short, up-to-end}

-- a text with byte 10 in it, or without
data Broken : List ℕ → Type 0 where
  whole : {l : List ℕ} → all not_end l ≡ true → Broken l
  broken : (a b : List ℕ) → all not_end a ≡ true → Broken (a ++ 10 ∷ b)

breaks : (l : List ℕ) → Broken l
breaks [] = whole {l = []} refl
breaks (x ∷ l) = go (eqb x 10) refl (breaks l)
  where
    next : eqb x 10 ≡ false → {m : List ℕ} → Broken m → Broken (x ∷ m)
    next e (whole {l = m} p) = whole {l = x ∷ m} (rw e p)
    next e (broken a b p) = broken (x ∷ a) b (rw e p)

    go : (t : Bool) → eqb x 10 ≡ t → Broken l → Broken (x ∷ l)
    go true e r = subst (λ (y : ℕ). Broken (y ∷ l)) (sym (eqb-true x 10 e)) (broken [] l refl)
    go false e r = next e r

all_take : (f : ℕ → Bool) (n : ℕ) (s : List ℕ) → all f s ≡ true → all f (take n s) ≡ true
all_take f zero s e = refl
all_take f (suc n) [] e = refl
all_take f (suc n) (a ∷ s) e = let p = (and-eq-true_iff (f a) (all f s)).0 e in rw p.0 (all_take f n s p.1)

pub no_end-front : (n : ℕ) (s : List ℕ) → all not_end s ≡ true → all not_end (take n s) ≡ true
no_end-front n s e = all_take not_end n s e

-- a text without byte 10 is bare
last_byte : (a : ℕ) (s : List ℕ) → all not_end (a ∷ s) ≡ true → eqb (get_or (a ∷ s) (length s) 0) 10 ≡ false
last_byte a [] e = not-true (eqb a 10) ((and-eq-true_iff (not_end a) true).0 e).0
last_byte a (b ∷ s) e = last_byte b s ((and-eq-true_iff (not_end a) (all not_end (b ∷ s))).0 e).1

last_of : (l : List ℕ) → all not_end l ≡ true → eqb (get_or l (length l - 1) 0) 10 ≡ false
last_of [] e = refl
last_of (a ∷ s) e = let n : length (a ∷ s) - 1 ≡ length s = omega arith in ap (λ (k : ℕ). eqb (get_or (a ∷ s) k 0) 10) n ∙ last_byte a s e

pub bare-unended : (l : List ℕ) → all not_end l ≡ true → bare l ≡ l
unfolding bare
bare-unended l e = rw (last_of l e)

-- ---- what is heard
pub heard-text : (l : List ℕ) → leb (length l) line_max ≡ true → heard l ≡ Text l
unfolding heard
heard-text l e = rw e

pub heard-none : (l : List ℕ) → leb (length l) line_max ≡ false → heard l ≡ Unheard
unfolding heard
heard-none l e = rw e

-- the lines of an input whose first line has its end, and of one that has none
pub input-ended : (s t : List ℕ) → all not_end s ≡ true → input (s ++ 10 ∷ t) ≡ heard (bare (s ++ 10 ∷ [])) ∷ input t
unfolding input
input-ended s t e = ap (map (λ l. heard (bare l))) (lines-ended s t e)

pub input_last : (a : ℕ) (s : List ℕ) → all not_end (a ∷ s) ≡ true → input (a ∷ s) ≡ heard (bare (a ∷ s)) ∷ []
unfolding input
input_last a s e = ap (map (λ l. heard (bare l))) (lines-last a s e)

-- ---- the line that a chunk ends
pub line-ended : (t chunk later : List ℕ) → all not_end t ≡ true → index_of 10 chunk < length chunk
    → input (t ++ (chunk ++ later)) ≡ heard (bare (t ++ up_to chunk)) ∷ input (drop (suc (index_of 10 chunk)) chunk ++ later)
unfolding up_to
line-ended t chunk later e h =
    let n = index_of 10 chunk in
    let a = take n chunk in
    let b = drop (suc n) chunk in
    let up : take (suc n) chunk ≡ a ++ (10 ∷ []) = up-to-end chunk refl h in
    let split : chunk ≡ (a ++ (10 ∷ [])) ++ b = sym (take-append-drop (suc n) chunk) ∙ ap (λ (l : List ℕ). l ++ b) up in
    let text : t ++ (chunk ++ later) ≡ (t ++ a) ++ 10 ∷ (b ++ later) =
    ap (λ (l : List ℕ). t ++ (l ++ later)) split ∙ ap (λ (l : List ℕ). t ++ (l ++ later)) (append_assoc a (10 ∷ []) b) ∙ ap (λ (l : List ℕ). t ++ l) (append_assoc a (10 ∷ b) later) ∙ sym (append_assoc t a (10 ∷ (b ++ later)))
    in
    let line : (t ++ a) ++ (10 ∷ []) ≡ t ++ take (suc n) chunk = append_assoc t a (10 ∷ []) ∙ ap (λ (l : List ℕ). t ++ l) (sym up) in
    ap input text ∙ input-ended (t ++ a) (b ++ later) (all_append not_end t a e (unended chunk)) ∙ ap (λ (l : List ℕ). heard (bare l) ∷ input (b ++ later)) line

-- ---- a line of which more has come than is kept: only that it is too long
long_heard : (l : List ℕ) → line_max < length (bare l) → heard (bare l) ≡ Unheard
long_heard l h = heard-none (bare l) (lt-leb (length (bare l)) line_max h)

module _ (t : List ℕ) (e : all not_end t ≡ true) (long : line_max + 2 ≤ length t) where
  long_ended : (a b : List ℕ) → all not_end a ≡ true → input (t ++ (a ++ 10 ∷ b)) ≡ Unheard ∷ input b
  long_ended a b p =
      let l = (t ++ a) ++ (10 ∷ []) in
      ap input (sym (append_assoc t a (10 ∷ b)))
      ∙ input-ended (t ++ a) b (all_append not_end t a e p)
      ∙ ap (λ (x : Heard). x ∷ input b) (long_heard l (omega (arith, bare-short l, length-append (t ++ a) (10 ∷ []), length-append t a)))

  long_last : (later : List ℕ) → all not_end later ≡ true → input (t ++ later) ≡ Unheard ∷ []
  long_last later p = go (t ++ later) (all_append not_end t later e p) (omega (arith, length-append t later))
    where
      go : (l : List ℕ) → all not_end l ≡ true → line_max < length l → input l ≡ Unheard ∷ []
      go [] q h = absurd (omega arith)
      go (x ∷ l) q h =
          input_last x l q ∙ ap (λ (y : Heard). y ∷ []) (long_heard (x ∷ l) (omega (arith, ap length (bare-unended (x ∷ l) q))))

pub line-cut : (m : ℕ) (t later : List ℕ) → all not_end t ≡ true → line_max + 2 ≤ m → input (take m t ++ later) ≡ input (t ++ later)
line-cut m t later e h = go (leb (length t) m) refl
  where
    go : (q : Bool) → leb (length t) m ≡ q → input (take m t ++ later) ≡ input (t ++ later)
    go true p = ap (λ (l : List ℕ). input (l ++ later)) (take_all m t (leb-true (length t) m p))
    go false p =
        let cut : m < length t = leb-false (length t) m p in
        same (breaks later) (no_end-front m t e) (omega (arith, length-take m t)) (omega arith)
      where
        same : {l : List ℕ} → Broken l → all not_end (take m t) ≡ true → line_max + 2 ≤ length (take m t) → line_max + 2 ≤ length t → input (take m t ++ l) ≡ input (t ++ l)
        same (whole {l = l} w) f g k = long_last (take m t) f g l w ∙ sym (long_last t e k l w)
        same (broken a b w) f g k = long_ended (take m t) f g a b w ∙ sym (long_ended t e k a b w)

-- ---- what the buffer holds of a line that is not too long
pub line-text : (t buffer : List ℕ) (len : ℕ) → Filled t buffer len → line_max + 2 ≤ length buffer → length (bare t) ≤ line_max → take (length (bare t)) buffer ≡ bare t
line-text t buffer len f room h =
    let n = length (bare t) in
    let short : length t ≤ line_max + 2 = omega (arith, bare-short t) in
    let size : len ≡ length t = omega (arith, f.size) in
    let front : take len buffer ≡ t = f.front ∙ take_all (length buffer) t (omega arith) in
    let b = bare-front t in
    sym (take-take n len buffer (omega (arith, b.short))) ∙ ap (take n) front ∙ b.part
