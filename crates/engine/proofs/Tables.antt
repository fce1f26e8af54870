-- Laws of ordered tables. First a table as a list: known, entry_of, enter and leave all happen at the rank of the key, so that each is a take, a drop or a set there.
-- Then a table as an array with a count and a view of its entries: what is left of it from an index on, and the view after a store, an entry put in and one taken out.
use mathlib.Core.Path.{◌≡◌, refl, sym, ◌∙◌, ap}
use mathlib.Core.Bool.{Bool, true, false, cond, true≢false}
use mathlib.Core.List.{List, [], ◌∷◌, ◌++◌}
use Prim.Native.Nat.{ℕ, suc, ◌+◌, ◌≤◌, ◌<◌, zero-le, suc-le-suc}
use native.Mathlib.Nat.{zero-lt-suc}
use native.Mathlib.Omega.{arith}
use lib.ListN.{length, take, drop, set, get_or}
use Rattle.engine.specs.Table.{Key, rank, known, entry_of, enter, leave}
use Rattle.std.proofs.Common.{Ok, Err}
use Rattle.engine.specs.Spot.{Spotted}

-- by a test
pub on : (P : Bool → Type 0) → P true → P false → (b : Bool) → P b
on P p q true = p
on P p q false = q

-- ---- a table as a list
module _ {K A : Type 0} (k : Key K A) (x : K) where
  pub rank-le : (l : List A) → rank k x l ≤ length l
  unfolding rank
  rank-le [] = zero-le
  rank-le (a ∷ l) = on (λ b. cond b (suc (rank k x l)) 0 ≤ suc (length l)) (suc-le-suc (rank-le l)) zero-le (k.below (k.of a) x)

  pub known-lt : (l : List A) → known k x l ≡ true → rank k x l < length l
  unfolding rank known
  known-lt [] = λ e. absurd (true≢false (sym e))
  known-lt (a ∷ l) =
      on (λ b. cond b (known k x l) (k.same (k.of a) x) ≡ true → cond b (suc (rank k x l)) 0 < suc (length l)) (λ e. suc-le-suc (known-lt l e)) (λ e. zero-lt-suc (length l)) (k.below (k.of a) x)

  pub entry_known : (l : List A) (d : A) → known k x l ≡ true → entry_of k x l ≡ get_or l (rank k x l) d ∷ []
  unfolding rank known entry_of
  entry_known [] d = λ e. absurd (true≢false (sym e))
  entry_known (a ∷ l) d =
      on (λ b. cond b (known k x l) (k.same (k.of a) x) ≡ true → cond b (entry_of k x l) (cond (k.same (k.of a) x) (a ∷ []) []) ≡ get_or (a ∷ l) (cond b (suc (rank k x l)) 0) d ∷ [])
      (entry_known l d)
      (λ e. rw e)
      (k.below (k.of a) x)

  pub key-known : (l : List A) (d : A) → known k x l ≡ true → k.same (k.of (get_or l (rank k x l) d)) x ≡ true
  unfolding rank known
  key-known [] d = λ e. absurd (true≢false (sym e))
  key-known (a ∷ l) d =
      on (λ b. cond b (known k x l) (k.same (k.of a) x) ≡ true → k.same (k.of (get_or (a ∷ l) (cond b (suc (rank k x l)) 0) d)) x ≡ true)
      (key-known l d)
      (λ e. e)
      (k.below (k.of a) x)

  pub entry-unknown : (l : List A) → known k x l ≡ false → entry_of k x l ≡ []
  unfolding known entry_of
  entry-unknown [] = λ e. refl
  entry-unknown (a ∷ l) =
      on (λ b. cond b (known k x l) (k.same (k.of a) x) ≡ false → cond b (entry_of k x l) (cond (k.same (k.of a) x) (a ∷ []) []) ≡ [])
      (entry-unknown l)
      (λ e. rw e)
      (k.below (k.of a) x)

  pub leave-known : (l : List A) → known k x l ≡ true → leave k x l ≡ take (rank k x l) l ++ drop (suc (rank k x l)) l
  unfolding rank known leave
  leave-known [] = λ e. refl
  leave-known (a ∷ l) =
      on (λ b. cond b (known k x l) (k.same (k.of a) x) ≡ true
      → cond b (a ∷ leave k x l) (cond (k.same (k.of a) x) l (a ∷ l)) ≡ take (cond b (suc (rank k x l)) 0) (a ∷ l) ++ drop (suc (cond b (suc (rank k x l)) 0)) (a ∷ l))
      (λ e. ap (λ (t : List A). a ∷ t) (leave-known l e))
      (λ e. rw e)
      (k.below (k.of a) x)

  pub leave-unknown : (l : List A) → known k x l ≡ false → leave k x l ≡ l
  unfolding known leave
  leave-unknown [] = λ e. refl
  leave-unknown (a ∷ l) =
      on (λ b. cond b (known k x l) (k.same (k.of a) x) ≡ false → cond b (a ∷ leave k x l) (cond (k.same (k.of a) x) l (a ∷ l)) ≡ a ∷ l)
      (λ e. ap (λ (t : List A). a ∷ t) (leave-unknown l e))
      (λ e. rw e)
      (k.below (k.of a) x)

-- ---- the loop that looks for a key in the table `l`: `rest` is what is left of it behind the first i, which are all below
module _ {K A : Type 0} (k : Key K A) (x : K) (l : List A) where
  pub record Looking (i : ℕ) (rest : List A) : Type 0 where
    pub at : rank k x l ≡ i + rank k x rest
    pub known : known k x l ≡ known k x rest

  pub look-turn : {i : ℕ} {rest more : List A} {a : A} → rest ≡ a ∷ more → k.below (k.of a) x ≡ true → Looking i rest → Looking (i + 1) more
  unfolding rank known
  look-turn {i} {rest} {more} e f h =
      let z : rank k x rest ≡ suc (rank k x more) = rw (e, f) in
      record { at = omega (arith, h.at); known = h.known ∙ rw (e, f) }

  -- the end of the table, or an entry that is not below, ends it
  pub look-over : {i : ℕ} {rest : List A} → rest ≡ [] → Looking i rest → Spotted k x l (Err i)
  unfolding rank known
  look-over {i} {rest} e h =
      let z : rank k x rest ≡ 0 = rw e in
      record { at = omega (arith, h.at); known = sym (h.known ∙ rw e) }

  module _ {i : ℕ} {rest more : List A} {a : A} (e : rest ≡ a ∷ more) (f : k.below (k.of a) x ≡ false) (h : Looking i rest) where
    stops : i ≡ rank k x l
    unfolding rank
    stops = let z : rank k x rest ≡ 0 = rw (e, f) in omega (arith, h.at)

    pub look-there : k.same (k.of a) x ≡ true → Spotted k x l (Ok i)
    unfolding known
    look-there g = record { at = stops; known = sym (h.known ∙ rw (e, f, g)) }

    pub look-before : k.same (k.of a) x ≡ false → Spotted k x l (Err i)
    unfolding known
    look-before g = record { at = stops; known = sym (h.known ∙ rw (e, f, g)) }

module _ {K A : Type 0} (k : Key K A) (b : A) where
  pub enter-known : (l : List A) → known k (k.of b) l ≡ true → enter k b l ≡ set l (rank k (k.of b) l) b
  unfolding rank known enter
  enter-known [] = λ e. absurd (true≢false (sym e))
  enter-known (a ∷ l) =
      on (λ t. cond t (known k (k.of b) l) (k.same (k.of a) (k.of b)) ≡ true
      → cond t (a ∷ enter k b l) (cond (k.same (k.of a) (k.of b)) (b ∷ l) (b ∷ a ∷ l)) ≡ set (a ∷ l) (cond t (suc (rank k (k.of b) l)) 0) b)
      (λ e. ap (λ (t : List A). a ∷ t) (enter-known l e))
      (λ e. rw e)
      (k.below (k.of a) (k.of b))

  pub enter-unknown : (l : List A) → known k (k.of b) l ≡ false → enter k b l ≡ take (rank k (k.of b) l) l ++ b ∷ drop (rank k (k.of b) l) l
  unfolding rank known enter
  enter-unknown [] = λ e. refl
  enter-unknown (a ∷ l) =
      on (λ t. cond t (known k (k.of b) l) (k.same (k.of a) (k.of b)) ≡ false
      → cond t (a ∷ enter k b l) (cond (k.same (k.of a) (k.of b)) (b ∷ l) (b ∷ a ∷ l))
      ≡ take (cond t (suc (rank k (k.of b) l)) 0) (a ∷ l) ++ b ∷ drop (cond t (suc (rank k (k.of b) l)) 0) (a ∷ l))
      (λ e. ap (λ (t : List A). a ∷ t) (enter-unknown l e))
      (λ e. rw e)
      (k.below (k.of a) (k.of b))
