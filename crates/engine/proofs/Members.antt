-- What holds of each member of a list holds of each member of what a table's rules, `map`, `flat` and `++` make of it.
use mathlib.Core.Path.{refl, sym, subst}
use mathlib.Core.Bool.{Bool, true, false, cond}
use mathlib.Core.List.Memᴰ.{head as first}
use mathlib.Core.List.Memᴰ.{tail as after}
use mathlib.Core.List.{List, [], ◌∷◌, ◌++◌, map, Memᴰ as In}
use Rattle.engine.specs.Table.{Key, entry_of, enter, leave}
use Rattle.engine.specs.Records.{flat}

pub data Each {A : Type 0} (P : A → Type 0) : List A → Type 0 where
  nobody : Each P []
  both : {a : A} {l : List A} → P a → Each P l → Each P (a ∷ l)

-- as a function of the member, and back
pub each_at : {A : Type 0} {P : A → Type 0} {l : List A} → Each P l → (x : A) → In x l → P x
each_at {P = P} (both p h) x (first e) = subst P (sym e) p
each_at (both p h) x (after i) = each_at h x i
each_at {A = A} {P = P} nobody x x6 = elim x6 [ ]

pub each-by : {A : Type 0} {P : A → Type 0} (l : List A) → ((x : A) → In x l → P x) → Each P l
each-by [] h = nobody
each-by (a ∷ l) h = both (h a (first refl)) (each-by l (λ x i. h x (after i)))

module _ {A : Type 0} {P : A → Type 0} where
  pub each-cond : (b : Bool) {l m : List A} → Each P l → Each P m → Each P (cond b l m)
  each-cond true h k = h
  each-cond false h k = k

  pub each_append : {l m : List A} → Each P l → Each P m → Each P (l ++ m)
  each_append nobody k = k
  each_append (both p h) k = both p (each_append h k)

  pub each-as : {Q : A → Type 0} {l : List A} → ((x : A) → P x → Q x) → Each P l → Each Q l
  each-as f nobody = nobody
  each-as f (both {a = a} p h) = both (f a p) (each-as f h)

-- of what a function makes of each member
module _ {A B : Type 0} {P : B → Type 0} {Q : A → Type 0} where
  pub each_map : (f : A → B) → ((x : A) → Q x → P (f x)) → {l : List A} → Each Q l → Each P (map f l)
  each_map f g nobody = nobody
  each_map f g (both {a = a} q h) = both (g a q) (each_map f g h)

  pub each-flat : (f : A → List B) → ((x : A) → Q x → Each P (f x)) → {l : List A} → Each Q l → Each P (flat f l)
  unfolding flat
  each-flat f g nobody = nobody
  each-flat f g (both {a = a} q h) = each_append (g a q) (each-flat f g h)

-- in an ordered table
module _ {K A : Type 0} (k : Key K A) {P : A → Type 0} where
  pub each-enter : (b : A) → P b → {l : List A} → Each P l → Each P (enter k b l)
  unfolding enter
  each-enter b p nobody = both p nobody
  each-enter b p (both {a = a} q h) =
      each-cond (k.below (k.of a) (k.of b)) (both q (each-enter b p h)) (each-cond (k.same (k.of a) (k.of b)) (both p h) (both p (both q h)))

  pub each-leave : (x : K) {l : List A} → Each P l → Each P (leave k x l)
  unfolding leave
  each-leave x nobody = nobody
  each-leave x (both {a = a} q h) = each-cond (k.below (k.of a) x) (both q (each-leave x h)) (each-cond (k.same (k.of a) x) h (both q h))

  pub each-entry : (x : K) {l : List A} → Each P l → Each P (entry_of k x l)
  unfolding entry_of
  each-entry x nobody = nobody
  each-entry x (both {a = a} q h) = each-cond (k.below (k.of a) x) (each-entry x h) (each-cond (k.same (k.of a) x) (both q nobody) nobody)
