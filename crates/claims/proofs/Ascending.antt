-- A table that is strictly ascending in its key stays so, whatever enters or leaves; in such a table `known` is membership. How long it gets.
-- The order is any strict total one; names in byte order and links by index are the two in use.
use mathlib.Core.Path.{◌≡◌, refl, sym, ◌∙◌, ap, subst}
use mathlib.Core.Bool.{Bool, true, false, cond, true≢false, false≢true}
use mathlib.Core.List.Memᴰ.{head as first}
use mathlib.Core.List.Memᴰ.{tail as after}
use mathlib.Core.List.{List, [], ◌∷◌, map, Memᴰ as In}
use Prim.Native.Nat.{suc, ◌≤◌, suc-le-suc}
use native.Mathlib.Omega.{arith}
use lib.ListN.{length}
use Rattle.engine.specs.Table.{Key, known, enter, leave}
use Rattle.engine.proofs.Members.{Each, nobody, both, each_at, each-as, each-enter, each-leave}

pub record StrictOrder {K : Type 0} (below same : K → K → Bool) : Type 0 where
  pub irreflexive : (x : K) → below x x ≡ false
  pub transitive : (x y z : K) → below x y ≡ true → below y z ≡ true → below x z ≡ true
  pub total : (x y : K) → below x y ≡ false → same x y ≡ false → below y x ≡ true
  pub same-is : (x y : K) → same x y ≡ true → x ≡ y
  pub same_refl : (x : K) → same x x ≡ true

module _ {K A : Type 0} where
  -- every entry's key is above this one
  abbrev pub Above : Key K A → K → List A → Type 0
  Above k x l = Each (λ a. k.below x (k.of a) ≡ true) l

  pub data Ascending (k : Key K A) : List A → Type 0 where
    empty : Ascending k []
    under : {a : A} {l : List A} → Above k (k.of a) l → Ascending k l → Ascending k (a ∷ l)

-- ---- lengths
module _ {K A : Type 0} (k : Key K A) where
  pub length-enter : (b : A) (l : List A) → length (enter k b l) ≤ suc (length l)
  unfolding enter
  length-enter b [] = omega arith
  length-enter b (a ∷ l) = go (k.below (k.of a) (k.of b)) (k.same (k.of a) (k.of b)) (length-enter b l)
    where
      go : (x y : Bool) → length (enter k b l) ≤ suc (length l) → length (cond x (a ∷ enter k b l) (cond y (b ∷ l) (b ∷ a ∷ l))) ≤ suc (suc (length l))
      go true y h = suc-le-suc h
      go false true h = omega arith
      go false false h = omega arith

  pub length-enter-known : (b : A) (l : List A) → known k (k.of b) l ≡ true → length (enter k b l) ≡ length l
  unfolding enter known
  length-enter-known b [] e = absurd (false≢true e)
  length-enter-known b (a ∷ l) e = go (k.below (k.of a) (k.of b)) (k.same (k.of a) (k.of b)) (length-enter-known b l) e
    where
      go : (x y : Bool) → (known k (k.of b) l ≡ true → length (enter k b l) ≡ length l) → cond x (known k (k.of b) l) y ≡ true →
          length (cond x (a ∷ enter k b l) (cond y (b ∷ l) (b ∷ a ∷ l))) ≡ suc (length l)
      go true y h e = ap suc (h e)
      go false true h e = refl
      go false false h e = absurd (false≢true e)

  pub length-leave : (x : K) (l : List A) → length (leave k x l) ≤ length l
  unfolding leave
  length-leave x [] = omega arith
  length-leave x (a ∷ l) = go (k.below (k.of a) x) (k.same (k.of a) x) (length-leave x l)
    where
      go : (y z : Bool) → length (leave k x l) ≤ length l → length (cond y (a ∷ leave k x l) (cond z l (a ∷ l))) ≤ suc (length l)
      go true z h = suc-le-suc h
      go false true h = omega arith
      go false false h = omega arith

-- ---- order
ascending_cond : {K A : Type 0} {k : Key K A} (b : Bool) {l m : List A} → (b ≡ true → Ascending k l) → (b ≡ false → Ascending k m) → Ascending k (cond b l m)
ascending_cond true h g = h refl
ascending_cond false h g = g refl

module _ {K A : Type 0} (k : Key K A) (o : StrictOrder k.below k.same) where
  pub ascending_enter : (b : A) {l : List A} → Ascending k l → Ascending k (enter k b l)
  unfolding enter
  ascending_enter b empty = under nobody empty
  ascending_enter b (under {a = a} {l = l} u h) =
      ascending_cond (k.below (k.of a) (k.of b)) (λ e. under (each-enter k b e u) (ascending_enter b h))
      (λ e. ascending_cond (k.same (k.of a) (k.of b))
      (λ s. under (subst (λ (x : K). Above k x l) (o.same-is (k.of a) (k.of b) s) u) h)
      (λ s.
      let below : k.below (k.of b) (k.of a) ≡ true = o.total (k.of a) (k.of b) e s in
      under (both below (each-as (λ c. o.transitive (k.of b) (k.of a) (k.of c) below) u)) (under u h)))

  pub ascending_leave : (x : K) {l : List A} → Ascending k l → Ascending k (leave k x l)
  unfolding leave
  ascending_leave x empty = empty
  ascending_leave x (under {a = a} u h) =
      ascending_cond (k.below (k.of a) x) (λ e. under (each-leave k x u) (ascending_leave x h))
      (λ e. ascending_cond (k.same (k.of a) x) (λ s. h) (λ s. under u h))

  -- of two members with one key each is the other
  apart : (a b c : A) → k.of a ≡ k.of b → c ≡ a → k.below (k.of c) (k.of b) ≡ true → ⊥
  apart a b c s e u = true≢false (sym u ∙ ap (λ (x : K). k.below x (k.of b)) (ap k.of e ∙ s) ∙ o.irreflexive (k.of b))

  pub in_one : {l : List A} → Ascending k l → (a b : A) → In a l → In b l → k.of a ≡ k.of b → a ≡ b
  in_one (under u h) a b (first e) (first f) s = e ∙ sym f
  in_one (under {a = c} u h) a b (first e) (after j) s = absurd (apart a b c s (sym e) (each_at u b j))
  in_one (under {a = c} u h) a b (after i) (first f) s = absurd (apart b a c (sym s) (sym f) (each_at u a i))
  in_one (under u h) a b (after i) (after j) s = in_one h a b i j s
  in_one empty a b x7 _ s = elim x7 [ ]

-- a function that keeps the keys keeps the order
module _ {K A : Type 0} (k : Key K A) (f : A → A) (keeps : (a : A) → k.of (f a) ≡ k.of a) where
  above_map : (x : K) {l : List A} → Above k x l → Above k x (map f l)
  above_map x nobody = nobody
  above_map x (both {a = a} p h) = both (ap (k.below x) (keeps a) ∙ p) (above_map x h)

  pub ascending_map : {l : List A} → Ascending k l → Ascending k (map f l)
  ascending_map empty = empty
  ascending_map (under {a = a} {l = l} u h) = under (subst (λ (x : K). Above k x (map f l)) (sym (keeps a)) (above_map (k.of a) u)) (ascending_map h)
