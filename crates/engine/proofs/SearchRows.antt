-- Laws of the table of subscriptions: a row of the array read and pushed, and the steps of loops over the rows, from the front and from the back.
use mathlib.Core.Path.{◌≡◌, refl, sym, ◌∙◌, ap}
use mathlib.Core.List.{List, [], ◌∷◌, ◌++◌}
use Prim.Native.Nat.{ℕ, suc, min, ◌+◌, ◌*◌, ◌-◌, ◌≤◌, ◌<◌}
use native.Mathlib.Numerals.{add-one}
use native.Mathlib.Omega.{arith}
use lib.ListN.{length, take, drop, set, get_or, length-drop, drop_of_length-le}
use lib.Seq.{take-take, take_all, take_at, drop-drop, drop-cons, get_or-take, get_or-drop}
use Rattle.text.specs.Put.{overwritten, Put}
use Rattle.message.specs.Build.{type_max}
use Rattle.engine.specs.Sizes.{subscriptions_max}
use Rattle.engine.specs.Held.{Text}
use Rattle.engine.specs.Arrays.{search_width, search_bytes, search_in, search_rows, search_at, search_count, searches_in}
use Rattle.engine.proofs.Slots.{cut}
use Rattle.engine.proofs.TableRows.{lines-length, lines_at, lines-push}

-- ---- one row
behind-first : (m : ℕ) (l : List ℕ) → drop 1 (take (suc m) l) ≡ take m (drop 1 l)
behind-first m [] = sym (take_all m [] (omega arith))
behind-first m (a ∷ l) = refl

pub type-is : (s : List ℕ) (i r : ℕ) → r ≡ min (get_or s (search_width * i) 0) type_max
    → take (search_width * i + 1 + r - (search_width * i + 1)) (drop (search_width * i + 1) s) ≡ search_at i s
unfolding search_in
type-is s i r e =
    let at = search_width * i in
    let l = drop at s in
    let n : at + 1 + r - (at + 1) ≡ r = omega arith in
    let len : get_or s at 0 ≡ get_or (take search_width l) 0 0 =
    ap (λ (k : ℕ). get_or s k 0) (omega arith) ∙ sym (get_or-take search_width l 0 0 (omega arith) ∙ get_or-drop at s 0 0)
    in
    let rest : take type_max (drop (at + 1) s) ≡ take type_max (drop 1 (take search_width l)) =
    ap (take type_max) (sym (drop-drop 1 at s))
    ∙ sym (ap (take type_max) (behind-first type_max l) ∙ take-take type_max type_max (drop 1 l) (omega arith))
    in
    ap (λ (k : ℕ). take k (drop (at + 1) s)) (n ∙ e) ∙ cut (get_or s at 0) type_max (drop (at + 1) s) ∙ (λ j. take (len j) (rest j))

pub type_put : (r service : List ℕ) {after : List ℕ} {next : ℕ} → length r ≡ search_width → length service ≤ type_max → Put (set r 0 (length service)) 1 service after next
    → search_in after ≡ service
unfolding search_in overwritten
type_put [] service e h p = absurd (omega arith)
type_put (a ∷ r) service e h p =
    let y = drop (1 + length service) (length service ∷ r) in
    ap search_in p.written ∙ take-take (length service) type_max (service ++ y) h ∙ take_at service y (length service) refl

-- a row behind the first n
pub type-pushed : (s d : List ℕ) {service : List ℕ} (n k : ℕ) → n < subscriptions_max → length s ≡ search_bytes → length d ≡ search_width → k ≡ search_width → search_in d ≡ service
    → search_rows (suc n) (take (search_width * n) s ++ (d ++ drop k (drop (search_width * n) s))) ≡ search_rows n s ++ (service ∷ [])
type-pushed s d n k h e g w q =
    lines-push search_width search_in n s d (omega arith) g (ap (λ (m : ℕ). take (search_width * n) s ++ (d ++ drop m (drop (search_width * n) s))) w)
    ∙ ap (λ (t : Text). search_rows n s ++ (t ∷ [])) q

-- ---- the table
module _ (head s : List ℕ) where
  pub searches-length : length (searches_in head s) ≡ search_count head
  unfolding searches_in
  searches-length = lines-length search_width search_in (search_count head) s

  pub next-is : (i : ℕ) → i < search_count head → drop i (searches_in head s) ≡ search_at i s ∷ drop (i + 1) (searches_in head s)
  unfolding searches_in
  next-is i h =
      drop-cons (searches_in head s) i [] (omega (arith, searches-length))
      ∙ (λ j. lines_at search_width search_in (search_count head) i s [] h j ∷ drop (sym (add-one i) j) (searches_in head s))

  pub last-is : (i : ℕ) → 0 < i → i ≤ search_count head → drop (i - 1) (searches_in head s) ≡ search_at (i - 1) s ∷ drop i (searches_in head s)
  last-is i h g =
      let e : i - 1 + 1 ≡ i = omega arith in
      next-is (i - 1) (omega arith) ∙ ap (λ (k : ℕ). search_at (i - 1) s ∷ drop k (searches_in head s)) e

  pub none_left : (i : ℕ) → search_count head ≤ i → drop i (searches_in head s) ≡ []
  none_left i h = drop_of_length-le (searches_in head s) {i = i} (omega (arith, searches-length))

  pub left_length : (i : ℕ) → length (drop i (searches_in head s)) ≤ subscriptions_max
  left_length i = omega (arith, length-drop i (searches_in head s), searches-length)
