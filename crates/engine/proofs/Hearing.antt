-- What follows from parse's answer to a datagram: its refusal, what it does to the names, and whom it notifies.
use mathlib.Core.Path.{◌≡◌, refl}
use mathlib.Core.Bool.{true, cond, not, false≢true}
use mathlib.Core.List.{List, []}
use Prim.Native.Nat.{ℕ, ◌≤◌, ◌<◌}
use native.Mathlib.Omega.{arith}
use borrow.Author.Tests.{lt-ltb, le-ltb, ne_eqb}
use lib.Dec.{eqb}
use Rattle.message.specs.Parse.{answer_of, ParseAnswer, reads, parsed, field_at}
use Rattle.message.specs.declared.Message.{Message}
use Rattle.message.specs.declared.Message.TheVariants.{NotifyAlive, NotifyByeBye, Search, Response}
use Rattle.std.specs.Prelude.{Result, Ok, Err}
use Rattle.message.specs.declared.ParseError.{ParseError}
use Rattle.message.specs.declared.ParseError.TheVariants.{Empty, Invalid}
use Rattle.text.specs.declared.white.Place.{Place}
use Rattle.engine.specs.Sizes.{time_max}
use Rattle.engine.specs.Reading.{Subject, Asking, Notice, subject_of, place_of, noticed, type_of, is_notice}
use Rattle.engine.specs.declared.advertisement.Endpoint.{Endpoint}
use Rattle.engine.specs.Held.{Text, Context}
use Rattle.engine.specs.Calls.{Datagram, asks_about, asks}
use Rattle.engine.specs.Need.{Names}
use Rattle.engine.specs.Refusals.{checks, refusal, subject_checks, search_checks}
use Rattle.engine.specs.Engine.{notifies_by, notifies_of, notifies_about}

-- an answer that holds no message is refused by its number
pub no_message : (p : Result Message ParseError) → ((m : Message) → p ≡ Ok m → ⊥) → (answer_of p).refusal ≡ 0 → ⊥
no_message (Ok m) k z = k m refl
no_message (Err Empty) k z = omega arith
no_message (Err Invalid) k z = omega arith

-- a message that is no search is a notice
pub no_search : (m : Message) → ((st : Place) → (mx : ℕ) → m ≡ Search st mx → ⊥) → is_notice m ≡ true
no_search (NotifyAlive nt usn l) k = refl
no_search (NotifyByeBye nt usn) k = refl
no_search (Search st mx) k = absurd (k st mx refl)
no_search (Response st usn l) k = refl

-- a notice is accepted, asks nothing, and notifies of its type
pub record Noticed (s : List ℕ) (service : Place) (a : ParseAnswer) : Type 0 where
  pub accepted : a.refusal ≡ 0
  pub checked : search_checks s a.message ≡ []
  pub asking : (time : ℕ) (sender : Endpoint) (receiver : ℕ) → asks time sender receiver s a.message ≡ []
  pub notifying : (subscriptions : List Text) → notifies_of subscriptions s a.message ≡ notifies_about subscriptions (field_at s service)

pub notice_read : (s : List ℕ) (m : Message) → is_notice m ≡ true → Noticed s (type_of m) (reads m)
notice_read s m e = let k = by-subject (subject_of m) e in record { accepted = refl; checked = k.0; asking = k.1; notifying = k.2 }
  where
    by-subject : (t : Subject) → noticed t ≡ true
        → (subject_checks s t ≡ []) × ((time : ℕ) (sender : Endpoint) (receiver : ℕ) → asks_about time sender receiver s t ≡ [])
        × ((subscriptions : List Text) → notifies_by subscriptions s t ≡ notifies_about subscriptions (field_at s (place_of t)))
    by-subject (Asking st mx) e = absurd (false≢true e)
    by-subject (Notice p) e = (refl, λ t o r. refl, λ ss. refl)

-- the refusal of a datagram: by its time, by what cannot be read, and none for a notice
module _ (x : Context) (n : Names) (time : ℕ) (sender : Endpoint) (receiver : ℕ) (s : List ℕ) where
  pub late-refusal : time_max < time → refusal x n (Datagram time sender receiver s) ≡ 1
  unfolding refusal checks
  late-refusal h = rw (lt-ltb time_max time h)

  by_number : (k : ℕ) (rest : ℕ) → (k ≡ 0 → ⊥) → cond (not (eqb k 0)) k rest ≡ k
  by_number k rest h = rw (ne_eqb k 0 h)

  pub unread-refusal : time ≤ time_max → ((parsed s).refusal ≡ 0 → ⊥) → refusal x n (Datagram time sender receiver s) ≡ (parsed s).refusal
  unfolding refusal checks
  unread-refusal h k = rw (le-ltb time_max time h) (by_number (parsed s).refusal _ k)

  pub notice_refusal : (service : Place) → time ≤ time_max → Noticed s service (parsed s) → refusal x n (Datagram time sender receiver s) ≡ 0
  unfolding refusal checks
  notice_refusal service h m = rw (le-ltb time_max time h, m.accepted, m.checked)
