-- Two ordered tables whose entries correspond one by one, with the same keys: what is known, found, entered and removed corresponds too.
use mathlib.Core.Path.{◌≡◌, refl}
use mathlib.Core.Bool.{Bool, true, false, cond}
use mathlib.Core.List.Forall₂.{cons as row}
use mathlib.Core.List.Forall₂.{nil}
use mathlib.Core.List.{List, Forall₂ as Rows}
use Prim.Native.Nat.{suc}
use mathlib.Core.Path.{ap}
use lib.ListN.{length}
use Rattle.engine.specs.Table.{Key, known, entry_of, enter, leave}

abbrev pub keyed : {K A : Type 0} → (K → K → Bool) → (K → K → Bool) → (A → K) → Key K A
keyed below same of = record { of = of; below = below; same = same }

module _ {A B : Type 0} {R : A → B → Type 0} where
  pub rows-cond : (b : Bool) {c d : List A} {x y : List B} → Rows R c x → Rows R d y → Rows R (cond b c d) (cond b x y)
  rows-cond true p q = p
  rows-cond false p q = q

  pub rows-length : {as' : List A} {bs : List B} → Rows R as' bs → length as' ≡ length bs
  rows-length nil = refl
  rows-length (row h t) = ap suc (rows-length t)

module _ {K A B : Type 0} (below same : K → K → Bool) (f : A → K) (g : B → K) {R : A → B → Type 0} (alike : (a : A) (b : B) → R a b → f a ≡ g b) where
  pub rows-known : (x : K) {as' : List A} {bs : List B} → Rows R as' bs → known (keyed below same f) x as' ≡ known (keyed below same g) x bs
  unfolding known
  rows-known x nil = refl
  rows-known x (row {a = a} {b = b} h t) = rw (alike a b h, rows-known x t)

  pub rows-entry : (x : K) {as' : List A} {bs : List B} → Rows R as' bs → Rows R (entry_of (keyed below same f) x as') (entry_of (keyed below same g) x bs)
  unfolding entry_of
  rows-entry x nil = nil
  rows-entry x (row {a = a} {b = b} h t) =
      rw (alike a b h) (rows-cond (below (g b) x) (rows-entry x t) (rows-cond (same (g b) x) (row h nil) nil))

  pub rows-leave : (x : K) {as' : List A} {bs : List B} → Rows R as' bs → Rows R (leave (keyed below same f) x as') (leave (keyed below same g) x bs)
  unfolding leave
  rows-leave x nil = nil
  rows-leave x (row {a = a} {b = b} h t) =
      rw (alike a b h) (rows-cond (below (g b) x) (row h (rows-leave x t)) (rows-cond (same (g b) x) t (row h t)))

  pub rows-enter : {p : A} {q : B} → R p q → {as' : List A} {bs : List B} → Rows R as' bs →
      Rows R (enter (keyed below same f) p as') (enter (keyed below same g) q bs)
  unfolding enter
  rows-enter s nil = row s nil
  rows-enter {p} {q} s (row {a = a} {b = b} h t) =
      rw (alike a b h, alike p q s)
      (rows-cond (below (g b) (g q)) (row h (rows-enter s t)) (rows-cond (same (g b) (g q)) (row s t) (row s (row h t))))
