-- Lists of addresses: whether one is in a list, and the list without it.
use mathlib.Core.Path.{◌≡◌, refl, sym, ◌∙◌, ap}
use mathlib.Core.Bool.{cond, ◌||◌}
use mathlib.Core.List.{List, [], ◌∷◌}
use Prim.Native.Nat.{ℕ, suc, ◌-◌, ◌≤◌, ◌<◌}
use native.Mathlib.Omega.{arith}
use lib.ListN.{length, take, set, get_or}
use lib.Dec.{eqb}
use native.Mathlib.Decide.{dec_le}
use borrow.Author.Tests.{lt-ltb, le-ltb}
use Rattle.std.proofs.Common.{None, Some}
use Rattle.std.specs.List.{position, position_or_len, list_any, swap_remove}
use Rattle.std.proofs.lemmas.List.{get_or_default}
use Rattle.std.proofs.lemmas.List.Recursion.{is_position_or_len}
use Rattle.engine.specs.Links.{contains, last_into}
use Rattle.engine.proofs.Tables.{on}

module _ (x : ℕ) where
  pub contains-any : (l : List ℕ) → list_any (λ a. eqb a x) l ≡ contains x l
  unfolding contains
  contains-any [] = refl
  contains-any (a ∷ l) = ap (λ b. eqb a x || b) (contains-any l)

  -- the place of the first x, or the list's length
  abbrev place_of : List ℕ → ℕ
  place_of [] = 0
  place_of (a ∷ l) = cond (eqb a x) 0 (suc (place_of l))

  place-is : (l : List ℕ) → place_of l ≡ position_or_len (λ a. eqb a x) l
  place-is = is_position_or_len place_of (λ a. eqb a x) refl (λ a l. ap (cond (eqb a x) 0) (omega arith))

  last_none : (l : List ℕ) → length l ≤ place_of l → last_into x l ≡ l
  unfolding last_into
  last_none [] = λ h. refl
  last_none (a ∷ l) =
      on (λ b. suc (length l) ≤ cond b 0 (suc (place_of l)) → cond b (take (length l) (get_or l (length l - 1) 0 ∷ l)) (a ∷ last_into x l) ≡ a ∷ l)
      (λ h. absurd (omega arith))
      (λ h. ap (λ (t : List ℕ). a ∷ t) (last_none l (omega arith)))
      (eqb a x)

  last-into : (a : ℕ) (l : List ℕ) → place_of (a ∷ l) ≤ length l → last_into x (a ∷ l) ≡ take (length l) (set (a ∷ l) (place_of (a ∷ l)) (get_or (a ∷ l) (length l) 0))
  unfolding last_into
  last-into a [] =
      on (λ b. cond b 0 1 ≤ 0 → cond b [] (a ∷ []) ≡ take 0 (set (a ∷ []) (cond b 0 1) a)) (λ h. refl) (λ h. absurd (omega arith)) (eqb a x)
  last-into a (c ∷ l) =
      let n = length l in
      let m : suc n - 1 ≡ n = omega arith in
      let p = place_of (c ∷ l) in
      let z = get_or (c ∷ l) n 0 in
      on (λ b. cond b 0 (suc p) ≤ suc n
      → cond b (take (suc n) (get_or (c ∷ l) (suc n - 1) 0 ∷ c ∷ l)) (a ∷ last_into x (c ∷ l)) ≡ take (suc n) (set (a ∷ c ∷ l) (cond b 0 (suc p)) z))
      (λ h. ap (λ (k : ℕ). take (suc n) (get_or (c ∷ l) k 0 ∷ c ∷ l)) m)
      (λ h. ap (λ (t : List ℕ). a ∷ t) (last-into c l (omega arith)))
      (eqb a x)

  last-at : (l : List ℕ) (n : ℕ) → length l ≡ suc n → place_of l ≤ n → last_into x l ≡ take n (set l (place_of l) (get_or l n 0))
  last-at [] n e h = absurd (omega arith)
  last-at (a ∷ l) n e h =
      let f : length l ≡ n = omega arith in
      last-into a l (omega arith) ∙ ap (λ (k : ℕ). take k (set (a ∷ l) (place_of (a ∷ l)) (get_or (a ∷ l) k 0))) f

  -- ---- what the place tells of the list without x
  found : (l : List ℕ) → place_of l < length l → position (λ a. eqb a x) l ≡ Some (place_of l)
  found l h =
      let k = place-is l in
      ap (λ b. cond b (Some (position_or_len (λ a. eqb a x) l)) None) (lt-ltb (position_or_len (λ a. eqb a x) l) (length l) (omega (arith, k))) ∙ ap Some (sym k)

  missed : (l : List ℕ) → length l ≤ place_of l → position (λ a. eqb a x) l ≡ None
  missed l h =
      ap (λ b. cond b (Some (position_or_len (λ a. eqb a x) l)) None) (le-ltb (position_or_len (λ a. eqb a x) l) (length l) (omega (arith, place-is l)))

  pub gone : (l : List ℕ) → position (λ a. eqb a x) l ≡ None → l ≡ last_into x l
  gone l e = go (dec_le (length l) (place_of l))
    where
      go : Dec (length l ≤ place_of l) → l ≡ last_into x l
      go (yes h) = sym (last_none l h)
      go (no h) = let s = found l (omega arith) in absurd (grind (arith, s, e))

  pub moved : (l : List ℕ) (i d : ℕ) → position (λ a. eqb a x) l ≡ Some i → swap_remove l i d ≡ last_into x l
  moved l i d e = go (dec_le (length l) (place_of l))
    where
      go : Dec (length l ≤ place_of l) → swap_remove l i d ≡ last_into x l
      go (yes h) = let s = missed l h in absurd (grind (arith, s, e))
      go (no h) =
          let n = length l - 1 in
          let s = found l (omega arith) in
          let at : i ≡ place_of l = grind (arith, s, e) in
          (λ j. take n (set l (at j) (get_or_default l n d 0 (omega arith) j))) ∙ sym (last-at l n (omega arith) (omega arith))
