-- That demand 3 is about every list: what is asked of a list of calls, each with the outbox that is lent to it, and the log that it then has (proved in proofs/EveryList).
use Rattle.std.specs.Prelude.{ℕ, ◌<◌, ◌≡◌, length}
use mathlib.Core.List.{List, [], ◌∷◌, map, Memᴰ as In}
use Rattle.engine.specs.Calls.{Call, NewLink, DeletedLink, NewAddress, DeletedAddress, Subscribe, Advertise, Deadvertise, Refresh, Datagram, Timeout, ResetTimer}
use Rattle.engine.specs.Arrays.{head_places, link_numbers, search_bytes, numbers_size, texts_size, Engine}
use Rattle.engine.specs.Promises.{Answered}
use Rattle.claims.specs.Claim.{Log, new, call}
use Rattle.engine.specs.declared.advertisement.Endpoint.{Endpoint}
use Rattle.engine.specs.declared.answer.Answer.{Answer}

-- numbers in the range of their types: u8, u16, u32
abbrev pub Byte : ℕ → Type 0
Byte x = x < 256

abbrev pub Half : ℕ → Type 0
Half x = x < 65536

abbrev pub Word : ℕ → Type 0
Word x = x < 4294967296

abbrev pub SenderFits : Endpoint → ℕ → Type 0
SenderFits sender receiver = Word sender.address × Half sender.port × Word receiver

-- asked of the numbers that may come to be held
abbrev pub InRange : Call → Type 0
InRange (NewLink index flags outcome room) = Word index
InRange (DeletedLink index outcome) = Unit {0}
InRange (NewAddress index address room) = Word index × ((b : ℕ) → In b address → Byte b)
InRange (DeletedAddress index address) = Word index
InRange (Subscribe service room) = Unit {0}
InRange (Advertise name service location room) = Unit {0}
InRange (Deadvertise name room) = Unit {0}
InRange (Refresh room) = Unit {0}
InRange (Datagram time sender receiver s) = SenderFits sender receiver
InRange (Timeout time room) = Unit {0}
InRange (ResetTimer time) = Unit {0}

-- the outbox has the length that the call bears; a call that sends nothing has none
abbrev pub Lends : Call → List ℕ → Type 0
Lends (NewLink index flags outcome room) outbox = room ≡ length outbox
Lends (DeletedLink index outcome) outbox = outbox ≡ []
Lends (NewAddress index address room) outbox = room ≡ length outbox
Lends (DeletedAddress index address) outbox = outbox ≡ []
Lends (Subscribe service room) outbox = room ≡ length outbox
Lends (Advertise name service location room) outbox = room ≡ length outbox
Lends (Deadvertise name room) outbox = room ≡ length outbox
Lends (Refresh room) outbox = room ≡ length outbox
Lends (Datagram time sender receiver s) outbox = outbox ≡ []
Lends (Timeout time room) outbox = room ≡ length outbox
Lends (ResetTimer time) outbox = outbox ≡ []

-- calls with their outboxes
abbrev pub Lent : List (Call × List ℕ) → Type 0
Lent [] = Unit {0}
Lent (p ∷ lent) = InRange p.0 × Lends p.0 p.1 × Lent lent

-- arrays of their sizes
pub record Sized (e : Engine) : Type 0 where
  pub head : length e.head ≡ head_places
  pub links : length e.links ≡ link_numbers
  pub searches : length e.searches ≡ search_bytes
  pub numbers : length e.numbers ≡ numbers_size
  pub texts : length e.texts ≡ texts_size

module _ {New : ℕ → ℕ → Answered → Type 0} {Gives : Engine → Call → List ℕ → List ℕ → Answered → Type 0} {seed time : ℕ} where
  -- the outboxes of a log, and that its arrays have their sizes throughout
  abbrev pub outboxes_of : {cs : List Call} {as' : List Answer} {e : Engine} → Log New Gives seed time cs as' e → List (List ℕ)
  outboxes_of (new h) = []
  outboxes_of (call {outbox = outbox} l h) = outbox ∷ outboxes_of l

  abbrev pub SizedIn : {cs : List Call} {as' : List Answer} {e : Engine} → Log New Gives seed time cs as' e → Type 0
  SizedIn {e = e} (new h) = Sized e
  SizedIn {e = e} (call l h) = Sized e × SizedIn l

-- a list's log
pub record Logged (New : ℕ → ℕ → Answered → Type 0) (Gives : Engine → Call → List ℕ → List ℕ → Answered → Type 0) (seed time : ℕ) (lent : List (Call × List ℕ)) : Type 0 where
  pub answers : List Answer
  pub last : Engine
  pub log : Log New Gives seed time (map (λ p. p.0) lent) answers last
  pub outboxes : outboxes_of log ≡ map (λ p. p.1) lent
  pub sizes : SizedIn log
