-- What a search and a handle_timeout make of one advertisement, case by case of its waiting reply, and what each counts.
use mathlib.Core.Path.{◌≡◌, refl}
use mathlib.Core.Bool.{Bool, true, false}
use mathlib.Core.List.{List, [], ◌∷◌, map}
use Prim.Native.Nat.{ℕ}
use Rattle.engine.specs.Held.{Text, Advertisement}
use Rattle.engine.specs.Calls.{Query}
use Rattle.engine.specs.Replies.{same_sender, asked_need, asked_answer, hits, asked}
use Rattle.engine.specs.Passes.{asked_by}
use Rattle.engine.specs.declared.advertisement.Endpoint.{Endpoint}
use Rattle.engine.specs.declared.advertisement.ResponseNeeded.{ResponseNeeded}
use Rattle.engine.specs.declared.advertisement.ResponseNeeded.TheVariants.{None, Multicast, Unicast}

-- ---- a search

-- the reply after a search that asks for it, by the reply that waits
module _ (due : ℕ) (q : Query) {n : ResponseNeeded} where
  pub repeated : {d : ℕ} {s : Endpoint} {r : ℕ} → n ≡ Unicast d s r → same_sender s q.sender ≡ true → Unicast d s r ≡ asked_need true due q n
  repeated p e = rw (p, e)

  pub shared : {d : ℕ} {s : Endpoint} {r : ℕ} → n ≡ Unicast d s r → same_sender s q.sender ≡ false → Multicast d ≡ asked_need true due q n
  shared p e = rw (p, e)

-- ---- a search on all: replies depend on its target, sender and receiver alone
module _ (due : ℕ) (q : Query) where
  abbrev parts : Query
  parts = asked_by q.target q.sender q.receiver

  needed-parts : (b : Bool) (n : ResponseNeeded) → asked_need b due parts n ≡ asked_need b due q n
  needed-parts false n = refl
  needed-parts true None = refl
  needed-parts true (Multicast d) = refl
  needed-parts true (Unicast d s r) = refl

  answer-parts : (b : Bool) (service : Text) (n : ResponseNeeded) (t : Text) → asked_answer b parts service n t ≡ asked_answer b q service n t
  answer-parts false service n t = refl
  answer-parts true service None t = refl
  answer-parts true service (Multicast d) t = refl
  answer-parts true service (Unicast d s r) t = refl

  one-parts : (a : Advertisement) → asked due parts a ≡ asked due q a
  unfolding asked
  one-parts a = λ i. record {
    name = a.name;
    service = a.service;
    location = a.location;
    needed = needed-parts (hits q a) a.needed i;
    answer = answer-parts (hits q a) a.service a.needed a.answer i;
  }

  pub asked-parts : (as' : List Advertisement) → map (asked due (asked_by q.target q.sender q.receiver)) as' ≡ map (asked due q) as'
  asked-parts [] = refl
  asked-parts (a ∷ l) = λ i. one-parts a i ∷ asked-parts l i
