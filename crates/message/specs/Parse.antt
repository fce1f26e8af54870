-- What `parse` answers: document 01, 'Messages', from "First lines are exact" on; UPnP Device Architecture 1.0, section 1, names the messages and their headers.
use Rattle.std.specs.Prelude.{codes, ℕ, cond, not, List, eqb, length, take, drop, Option, None, Some, Result, Ok, Err}
use Rattle.std.proofs.Math.Option.{Option as Maybe, none, some}
use Rattle.text.specs.Bytes.{bytes, equal}
use Rattle.text.specs.Lines.{first_line}
use Rattle.text.specs.Number.{number, max8}
use Rattle.text.specs.Utf8.{utf8}
use Rattle.text.specs.declared.white.Place.{Place}
use Rattle.message.specs.Refusals.{accepted, datagram_empty, datagram_invalid}
use Rattle.message.specs.Build.{notify_line, response_line, search_line}
use Rattle.message.specs.Headers.{Header, header, header_from}
use Rattle.message.specs.declared.Message.{Message}
use Rattle.message.specs.declared.Message.TheVariants.{NotifyAlive, NotifyByeBye, Search, Response}
use Rattle.message.specs.declared.ParseError.{ParseError}
use Rattle.message.specs.declared.ParseError.TheVariants.{Empty, Invalid}

-- what document 01 has `parse` answer: a number, and the message where that is 0
pub record ParseAnswer : Type 0 where
  pub refusal : ℕ
  pub message : Maybe Message

abbrev pub reads : Message → ParseAnswer
reads message = record { refusal = accepted; message = some message }

abbrev pub refuses : ℕ → ParseAnswer
refuses number = record { refusal = number; message = none }

-- "`parse` called alone gives only 7 and 8"
abbrev pub number_of : ParseError → ℕ
number_of Empty = datagram_empty
number_of Invalid = datagram_invalid

-- and in words
abbrev pub words_of : ParseError → List ℕ
words_of Empty = codes "an empty datagram"
words_of Invalid = codes "no message"

-- the number and the message for each case of the code's answer
abbrev pub answer_of : Result Message ParseError → ParseAnswer
answer_of (Ok message) = reads message
answer_of (Err error) = refuses (number_of error)

-- "Each field is handed back as the place it occupies in the datagram": what stands at a place
abbrev pub field_at : List ℕ → Place → List ℕ
field_at datagram place = take place.len (drop place.start datagram)

-- a message with a field that a header gives; "8 any other `parse` error" where the header is missing
abbrev pub given : Header → (Place → ParseAnswer) → ParseAnswer
given (Some place) message = message place
given None message = refuses datagram_invalid

-- "`ssdp:alive` (NT, USN, LOCATION)"
abbrev pub alive_of : Header → Header → Header → ParseAnswer
alive_of nt usn location = given nt (λ t. given usn (λ u. given location (λ l. reads (NotifyAlive t u l))))

-- "`ssdp:byebye` (NT, USN)"
abbrev pub byebye_of : Header → Header → ParseAnswer
byebye_of nt usn = given nt (λ t. given usn (λ u. reads (NotifyByeBye t u)))

-- "`NOTIFY * HTTP/1.1` with NTS `ssdp:alive` .. or `ssdp:byebye`"
abbrev pub notify_of : List ℕ → Header → Header → Header → Header → ParseAnswer
notify_of s nts nt usn location =
    given nts (λ p.
    cond (equal (field_at s p) (bytes "ssdp:alive")) (alive_of nt usn location)
    (cond (equal (field_at s p) (bytes "ssdp:byebye")) (byebye_of nt usn)
    (refuses datagram_invalid)))

-- "`HTTP/1.1 200 OK` (ST, USN, LOCATION)"
abbrev pub response_of : Header → Header → Header → ParseAnswer
response_of st usn location = given st (λ t. given usn (λ u. given location (λ l. reads (Response t u l))))

-- "`M-SEARCH * HTTP/1.1` (ST, MX in 8 bits)"
abbrev pub search_in : Place → Option ℕ → ParseAnswer
search_in target (Some seconds) = reads (Search target seconds)
search_in target None = refuses datagram_invalid

abbrev pub search_of : List ℕ → Header → Header → ParseAnswer
search_of s st mx = given st (λ t. given mx (λ p. search_in t (number max8 (field_at s p))))

-- a datagram's first line, without its end
abbrev pub start_line : List ℕ → List ℕ
start_line datagram = take (first_line datagram).len datagram

-- what a datagram says: "First lines are exact"
unfoldable pub parsed : List ℕ → ParseAnswer
parsed s =
    cond (eqb (length s) 0) (refuses datagram_empty)
    (cond (not (utf8 s)) (refuses datagram_invalid)
    (cond (equal (start_line s) notify_line)
    (notify_of s (header s (bytes "NTS")) (header s (bytes "NT")) (header s (bytes "USN")) (header s (bytes "LOCATION")))
    (cond (equal (start_line s) response_line)
    (response_of (header s (bytes "ST")) (header s (bytes "USN")) (header s (bytes "LOCATION")))
    (cond (equal (start_line s) search_line)
    (search_of s (header s (bytes "ST")) (header s (bytes "MX")))
    (refuses datagram_invalid)))))

-- the same messages from the headers of the lines from `from` on
unfoldable pub notify_from : List ℕ → ℕ → ParseAnswer
notify_from s from =
    notify_of s (header_from s from (bytes "NTS")) (header_from s from (bytes "NT")) (header_from s from (bytes "USN"))
    (header_from s from (bytes "LOCATION"))

unfoldable pub response_from : List ℕ → ℕ → ParseAnswer
response_from s from = response_of (header_from s from (bytes "ST")) (header_from s from (bytes "USN")) (header_from s from (bytes "LOCATION"))

unfoldable pub search_from : List ℕ → ℕ → ParseAnswer
search_from s from = search_of s (header_from s from (bytes "ST")) (header_from s from (bytes "MX"))
