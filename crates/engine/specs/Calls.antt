-- The public calls that stand in a list, with their arguments (document 01, 'Engine and ledger'), and what each does to the names.
-- `room` is the length of the outbox that is lent.
use Rattle.std.specs.Prelude.{ℕ, ◌+◌, List, [], ◌∷◌}
use Rattle.std.proofs.Math.Option.{Option, none, some}
use Rattle.message.specs.Parse.{parsed, field_at}
use Rattle.message.specs.declared.Message.{Message}
use Rattle.engine.specs.Reading.{Subject, Asking, Notice, subject_of}
use Rattle.engine.specs.Held.{Text}
use Rattle.engine.specs.declared.advertisement.Endpoint.{Endpoint}

pub data Call : Type 0 where
  -- index, flags, join outcome, room
  NewLink : ℕ → ℕ → ℕ → ℕ → Call
  -- index, leave outcome
  DeletedLink : ℕ → ℕ → Call
  -- index, the address's bytes, room
  NewAddress : ℕ → List ℕ → ℕ → Call
  DeletedAddress : ℕ → List ℕ → Call
  -- type, room
  Subscribe : Text → ℕ → Call
  -- name, type, location, room
  Advertise : Text → Text → Text → ℕ → Call
  Deadvertise : Text → ℕ → Call
  Refresh : ℕ → Call
  -- time, sender, receiving address, datagram
  Datagram : ℕ → Endpoint → ℕ → List ℕ → Call
  -- time, room
  Timeout : ℕ → ℕ → Call
  ResetTimer : ℕ → Call

-- a search as it came: target, MX, sender, receiving address, time
pub record Query : Type 0 where
  pub target : Text
  pub mx : ℕ
  pub sender : Endpoint
  pub receiver : ℕ
  pub time : ℕ

-- what a call does to the names and their waiting replies: a name enters with type and location, a name leaves, a search asks, the clock is shown
pub data Act : Type 0 where
  Enters : Text → Text → Text → Act
  Leaves : Text → Act
  Asks : Query → Act
  Ticks : ℕ → Act

-- the search that a datagram is, if `parse` reads it as one
abbrev pub asks_about : ℕ → Endpoint → ℕ → List ℕ → Subject → List Act
asks_about time sender receiver s (Asking st mx) =
    Asks (record { target = field_at s st; mx = mx; sender = sender; receiver = receiver; time = time }) ∷ []
asks_about time sender receiver s (Notice t) = []

abbrev pub asks : ℕ → Endpoint → ℕ → List ℕ → Option Message → List Act
asks time sender receiver s none = []
asks time sender receiver s (some m) = asks_about time sender receiver s (subject_of m)

unfoldable pub acts : Call → List Act
acts (NewLink index flags outcome room) = []
acts (DeletedLink index outcome) = []
acts (NewAddress index address room) = []
acts (DeletedAddress index address) = []
acts (Subscribe service room) = []
acts (Advertise name service location room) = Enters name service location ∷ []
acts (Deadvertise name room) = Leaves name ∷ []
acts (Refresh room) = []
acts (Datagram time sender receiver s) = asks time sender receiver s (parsed s).message
acts (Timeout time room) = Ticks time ∷ []
acts (ResetTimer time) = []

-- the five counts of the reply ledger
pub record Counts : Type 0 where
  pub matched : ℕ
  pub joined : ℕ
  pub alone : ℕ
  pub group : ℕ
  pub dropped : ℕ

abbrev pub zeros : Counts
zeros = record { matched = 0; joined = 0; alone = 0; group = 0; dropped = 0 }

abbrev pub plus : Counts → Counts → Counts
plus c d = record {
  matched = c.matched + d.matched;
  joined = c.joined + d.joined;
  alone = c.alone + d.alone;
  group = c.group + d.group;
  dropped = c.dropped + d.dropped;
}
