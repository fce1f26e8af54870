-- What a message is to the engine: a search, or notice of the type of a notify or response. A further message is a further case of `subject_of`.
use Rattle.std.specs.Prelude.{ℕ, Bool, true, false}
use Rattle.text.specs.declared.white.Place.{Place}
use Rattle.message.specs.declared.Message.{Message}
use Rattle.message.specs.declared.Message.TheVariants.{NotifyAlive, NotifyByeBye, Search, Response}

-- a search with its target and MX, or notice of a type: NT or ST
pub data Subject : Type 0 where
  Asking : Place → ℕ → Subject
  Notice : Place → Subject

abbrev pub subject_of : Message → Subject
subject_of (NotifyAlive nt usn l) = Notice nt
subject_of (NotifyByeBye nt usn) = Notice nt
subject_of (Search st mx) = Asking st mx
subject_of (Response st usn l) = Notice st

-- where the type stands
abbrev pub place_of : Subject → Place
place_of (Asking st mx) = st
place_of (Notice t) = t

abbrev pub type_of : Message → Place
type_of m = place_of (subject_of m)

-- every message but a search
abbrev pub noticed : Subject → Bool
noticed (Asking st mx) = false
noticed (Notice t) = true

abbrev pub is_notice : Message → Bool
is_notice m = noticed (subject_of m)
