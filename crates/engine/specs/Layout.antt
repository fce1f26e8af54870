-- How records lie in the outbox: document 01, 'Outbox'.
use Rattle.std.specs.Prelude.{ℕ, ◌+◌, ◌-◌, ◌*◌, ◌/◌, ◌%◌, ◌≤◌, ◌≡◌, cond, ◌||◌, List, [], ◌∷◌, ◌++◌, length, take, drop, replicate}
use Rattle.message.specs.Build.{Bounded, any_over_size, any_not_good, search_texts, byebye_texts, located_texts, search_text, notify_text, byebye_text, response_text}
use Rattle.engine.specs.Sizes.{record_size, head_size, group_address, group_port}
use Rattle.engine.specs.Location.{rewritten}
use Rattle.engine.specs.Held.{Text}
use Rattle.engine.specs.Records.{Record, SearchFrom, NotifyFrom, ByeByeFrom, ResponseFrom, flat}
use Rattle.engine.specs.declared.advertisement.Endpoint.{Endpoint}

abbrev pub group : Endpoint
group = record { address = group_address; port = group_port }

abbrev pub source_of : Record → ℕ
source_of (SearchFrom source service) = source
source_of (NotifyFrom source service name location) = source
source_of (ByeByeFrom source service name) = source
source_of (ResponseFrom source to service name location) = source

abbrev pub destination_of : Record → Endpoint
destination_of (SearchFrom source service) = group
destination_of (NotifyFrom source service name location) = group
destination_of (ByeByeFrom source service name) = group
destination_of (ResponseFrom source to service name location) = to

-- the texts of a record's message with their largest sizes, and the message that they make; the location names the source address
abbrev pub texts_of : Record → List Bounded
texts_of (SearchFrom source service) = search_texts service
texts_of (NotifyFrom source service name location) = located_texts service name (rewritten location source)
texts_of (ByeByeFrom source service name) = byebye_texts service name
texts_of (ResponseFrom source to service name location) = located_texts service name (rewritten location source)

abbrev pub text_of : Record → Text
text_of (SearchFrom source service) = search_text service
text_of (NotifyFrom source service name location) = notify_text service name (rewritten location source)
text_of (ByeByeFrom source service name) = byebye_text service name
text_of (ResponseFrom source to service name location) = response_text service name (rewritten location source)

-- the message of a record. Texts that the build functions refuse (3, 4) leave none: an engine that began with `new` holds no such texts.
unfoldable pub message_of : Record → Text
message_of r = cond (any_over_size (texts_of r) || any_not_good (texts_of r)) [] (text_of r)

-- the last two, and the last four, bytes of a number, the highest first
abbrev pub big_endian2 : ℕ → List ℕ
big_endian2 x = x / 256 % 256 ∷ x % 256 ∷ []

abbrev pub big_endian4 : ℕ → List ℕ
big_endian4 x = x / 16777216 % 256 ∷ x / 65536 % 256 ∷ x / 256 % 256 ∷ x % 256 ∷ []

-- destination 4 bytes, port 2, source 4, length 2
unfoldable pub head_of : Endpoint → ℕ → ℕ → List ℕ
head_of to source size = big_endian4 to.address ++ big_endian2 to.port ++ big_endian4 source ++ big_endian2 size

-- a record: its head, the message, and zeros to the record's size
unfoldable pub framed : Endpoint → ℕ → Text → List ℕ
framed to source message = head_of to source (length message) ++ message ++ replicate (record_size - head_size - length message) 0

unfoldable pub record_bytes : Record → List ℕ
record_bytes r = framed (destination_of r) (source_of r) (message_of r)

-- the records in a row, and what stands in an outbox once they are written: the bytes after the last record keep their values
unfoldable pub layout : List Record → List ℕ
layout rs = flat record_bytes rs

unfoldable pub written : List Record → List ℕ → List ℕ
written rs outbox = layout rs ++ drop (length (layout rs)) outbox

-- there is room for these records from record k on
abbrev pub Room : List ℕ → ℕ → List Record → Type 0
Room outbox k rs = record_size * (k + length rs) ≤ length outbox

-- these records were written from record k on: `after` is the outbox then, `next` the number of the record behind them
pub record Sends (outbox : List ℕ) (k : ℕ) (rs : List Record) (after : List ℕ) (next : ℕ) : Type 0 where
  pub number : next ≡ k + length rs
  pub room : record_size * next ≤ length outbox
  pub bytes : after ≡ take (record_size * k) outbox ++ layout rs ++ drop (record_size * next) outbox

-- the records of a call were written, the first at the outbox's start: `after` is the outbox then, `count` their number
pub record Sent (rs : List Record) (outbox after : List ℕ) (count : ℕ) : Type 0 where
  pub number : count ≡ length rs
  pub bytes : after ≡ written rs outbox
