-- Laws of the keys' table: a text is at most one of the keys, and its length tells which it can be.
use mathlib.Core.Path.{◌≡◌, refl, sym, ◌∙◌, ap}
use mathlib.Core.Bool.{Bool, true, false, cond, not, ◌&&◌, false≢true, and-eq-true_iff}
use mathlib.Core.List.{List, [], ◌∷◌, map}
use Prim.Native.Nat.{ℕ, suc}
use native.Mathlib.Omega.{arith}
use borrow.Author.Tests.{eqb-true, not-true}
use lib.Dec.{eqb}
use lib.ListN.{length, set}
use Rattle.text.specs.Bytes.{bytes, agree, upper, equal, equal_upper}
use Rattle.text.proofs.Comparing.{agree-lengths}
use Rattle.text.specs.declared.white.Place.{Place}
use Rattle.message.specs.Headers.{keys, key_index, later}
use Rattle.message.specs.Headers.{Header}
use Rattle.std.specs.Prelude.{None, Some}

-- the index from the six tests
pub index : (k : List ℕ) {a b c d e f : Bool} → equal_upper k (bytes "NT") ≡ a → equal_upper k (bytes "ST") ≡ b → equal_upper k (bytes "MX") ≡ c
    → equal_upper k (bytes "NTS") ≡ d → equal_upper k (bytes "USN") ≡ e → equal_upper k (bytes "LOCATION") ≡ f
    → cond a 0 (suc (cond b 0 (suc (cond c 0 (suc (cond d 0 (suc (cond e 0 (suc (cond f 0 (suc 0))))))))))) ≡ key_index keys k
unfolding keys key_index
index k p q r s t u = sym (simp (p, q, r, s, t, u))

-- a text of another length is not the key
pub unlike : (k t : List ℕ) → (length k ≡ length t → ⊥) → equal_upper k t ≡ false
unlike k t h = agree-lengths upper k t h

-- a text that is a key is no other one
one_key : (k t u : List ℕ) → equal_upper k t ≡ true → equal_upper k u ≡ equal t u
unfolding agree
one_key [] [] [] e = refl
one_key [] [] (c ∷ u) e = refl
one_key [] (b ∷ t) u e = absurd (false≢true e)
one_key (a ∷ k) [] u e = absurd (false≢true e)
one_key (a ∷ k) (b ∷ t) [] e = refl
one_key (a ∷ k) (b ∷ t) (c ∷ u) e =
    let p = (and-eq-true_iff (eqb (upper a) b) (agree upper k t)).0 e in
    let q : upper a ≡ b = eqb-true (upper a) b p.0 in
    ap (λ (x : ℕ). eqb x c && agree upper k u) q ∙ ap (λ (x : Bool). eqb b c && x) (one_key k t u p.1)

-- keys that differ from each other
abbrev apart : List ℕ → List (List ℕ) → Bool
apart t [] = true
apart t (u ∷ us) = not (equal t u) && apart t us

abbrev distinct : List (List ℕ) → Bool
distinct [] = true
distinct (t ∷ ts) = apart t ts && distinct ts

keys-distinct : distinct keys ≡ true
unfolding keys bytes agree
keys-distinct = refl

-- a table of headers, one for each key, with later ones over it
abbrev pub merge : (List ℕ → Header) → List (List ℕ) → List Header → List Header
merge f [] hs = hs
merge f (k ∷ ks) [] = []
merge f (k ∷ ks) (h ∷ hs) = later (f k) h ∷ merge f ks hs

pub merge-ext : {f g : List ℕ → Header} → ((k : List ℕ) → f k ≡ g k) → (ks : List (List ℕ)) (hs : List Header) → merge f ks hs ≡ merge g ks hs
merge-ext e [] hs = refl
merge-ext e (k ∷ ks) [] = refl
merge-ext {f} {g} e (k ∷ ks) (h ∷ hs) = ap (λ (x : Header). later x h ∷ merge f ks hs) (e k) ∙ ap (λ (l : List Header). later (g k) h ∷ l) (merge-ext e ks hs)

later-later : (x y z : Header) → later (later x y) z ≡ later x (later y z)
later-later (Some p) y z = refl
later-later None y z = refl

pub merge-merge : (f g : List ℕ → Header) (ks : List (List ℕ)) (hs : List Header) → merge (λ k. later (f k) (g k)) ks hs ≡ merge f ks (merge g ks hs)
merge-merge f g [] hs = refl
merge-merge f g (k ∷ ks) [] = refl
merge-merge f g (k ∷ ks) (h ∷ hs) =
    ap (λ (x : Header). x ∷ merge (λ k. later (f k) (g k)) ks hs) (later-later (f k) (g k) h)
    ∙ ap (λ (l : List Header). later (f k) (later (g k) h) ∷ l) (merge-merge f g ks hs)

pub merge-absent : (ks : List (List ℕ)) (hs : List Header) → merge (λ k. None) ks hs ≡ hs
merge-absent [] hs = refl
merge-absent (k ∷ ks) [] = refl
merge-absent (k ∷ ks) (h ∷ hs) = ap (λ (l : List Header). h ∷ l) (merge-absent ks hs)

later-absent : (x : Header) → later x None ≡ x
later-absent (Some p) = refl
later-absent None = refl

-- over an empty table
pub merge-fresh : (f : List ℕ → Header) (ks : List (List ℕ)) → merge f ks (map (λ k. None) ks) ≡ map f ks
merge-fresh f [] = refl
merge-fresh f (k ∷ ks) = ap (λ (x : Header). x ∷ merge f ks (map (λ k. None) ks)) (later-absent (f k)) ∙ ap (λ (l : List Header). f k ∷ l) (merge-fresh f ks)

-- a value of the key `k` is stored at the key's index
module _ (k : List ℕ) (v : Place) where
  abbrev pub under : List ℕ → Header
  under key = cond (equal_upper k key) (Some v) None

  not-under : (t : List ℕ) → equal_upper k t ≡ true → (ks : List (List ℕ)) → apart t ks ≡ true → (hs : List Header) → merge under ks hs ≡ hs
  not-under t e [] a hs = refl
  not-under t e (u ∷ us) a [] = refl
  not-under t e (u ∷ us) a (h ∷ hs) =
      let p = (and-eq-true_iff (not (equal t u)) (apart t us)).0 a in
      let q : equal_upper k u ≡ false = one_key k t u e ∙ not-true (equal t u) p.0 in
      ap (λ (x : Bool). later (cond x (Some v) None) h ∷ merge under us hs) q ∙ ap (λ (l : List Header). h ∷ l) (not-under t e us p.1 hs)

  stored : (ks : List (List ℕ)) → distinct ks ≡ true → (hs : List Header) → length hs ≡ length ks → merge under ks hs ≡ set hs (key_index ks k) (Some v)
  unfolding key_index
  stored [] d [] n = refl
  stored [] d (h ∷ hs) n = absurd (omega (arith, n))
  stored (t ∷ ts) d [] n = refl
  stored (t ∷ ts) d (h ∷ hs) n =
      let p = (and-eq-true_iff (apart t ts) (distinct ts)).0 d in
      go (equal_upper k t) refl (λ e. not-under t e ts p.0 hs) (stored ts p.1 hs (omega (arith, n)))
    where
      go : (b : Bool) → equal_upper k t ≡ b → (equal_upper k t ≡ true → merge under ts hs ≡ hs) → merge under ts hs ≡ set hs (key_index ts k) (Some v)
          → later (cond b (Some v) None) h ∷ merge under ts hs ≡ set (h ∷ hs) (cond b 0 (suc (key_index ts k))) (Some v)
      go true e f r = ap (λ (l : List Header). Some v ∷ l) (f e)
      go false e f r = ap (λ (l : List Header). h ∷ l) r

  pub stored_at : (hs : List Header) → length hs ≡ 6 → merge under keys hs ≡ set hs (key_index keys k) (Some v)
  unfolding keys
  stored_at hs n = stored keys keys-distinct hs n
