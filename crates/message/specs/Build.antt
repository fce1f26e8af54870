-- What the `build_*` write and when they refuse: document 01, 'Messages' ("Built texts are those of the Rust") and 'Who can be turned away'.
use Rattle.std.specs.Prelude.{codes, ℕ, ◌≡◌, Bool, false, cond, not, ◌||◌, List, [], ◌∷◌, ◌++◌, eqb, ltb, length, drop, Result, Ok, Err}
use Prim.Native.String.{String}
use Rattle.text.specs.Bytes.{bytes}
use Rattle.text.specs.Good.{good_text}
use Rattle.message.specs.Refusals.{accepted, text_over_size, text_not_good, buffer_short}
use Rattle.message.specs.declared.build.BuildError.{BuildError}
use Rattle.message.specs.declared.build.BuildError.TheVariants.{TextOverSize, TextNotGood, BufferShort}

-- "Type at most 80 bytes, name (USN) 128", "a location in `build_*`: 135"
abbrev pub type_max : ℕ
type_max = 80

abbrev pub name_max : ℕ
name_max = 128

abbrev pub build_location_max : ℕ
build_location_max = 135

-- "so no message passes 506"
abbrev pub message_max : ℕ
message_max = 506

-- a text that is handed in to stand in a message, and its largest size
pub record Bounded : Type 0 where
  pub text : List ℕ
  pub largest : ℕ

abbrev pub at_most : ℕ → List ℕ → Bounded
at_most largest text = record { text = text; largest = largest }

-- whether some text is over its size
abbrev pub any_over_size : List Bounded → Bool
any_over_size [] = false
any_over_size (t ∷ ts) = ltb t.largest (length t.text) || any_over_size ts

-- whether some text is not good
abbrev pub any_not_good : List Bounded → Bool
any_not_good [] = false
any_not_good (t ∷ ts) = not (good_text t.text) || any_not_good ts

-- 3, 4 and 6, "in the order listed", over all texts, for a message and a buffer of these lengths
unfoldable pub build_refusal : List Bounded → ℕ → ℕ → ℕ
build_refusal texts message_length buffer_length =
    cond (any_over_size texts) text_over_size
    (cond (any_not_good texts) text_not_good
    (cond (ltb buffer_length message_length) buffer_short
    accepted))

-- the number of each error, 0 of none
abbrev pub build_number : BuildError → ℕ
build_number TextOverSize = text_over_size
build_number TextNotGood = text_not_good
build_number BufferShort = buffer_short

-- and in words
abbrev pub build_words : BuildError → List ℕ
build_words TextOverSize = codes "a text over its size"
build_words TextNotGood = codes "a text that may not stand in a message"
build_words BufferShort = codes "a buffer shorter than the message"

abbrev pub refused_by : {A : Type 0} → Result A BuildError → ℕ
refused_by (Ok a) = accepted
refused_by (Err error) = build_number error

-- what document 01 has a `build_*` answer: the refusal, 0 if there is none, and the length of the message, 0 if it was refused
pub record Built : Type 0 where
  pub refusal : ℕ
  pub len : ℕ

abbrev pub built : Result ℕ BuildError → Built
built (Ok len) = record { refusal = accepted; len = len }
built (Err error) = record { refusal = build_number error; len = 0 }

-- what a `build_*` answers and leaves in its buffer: a refused one leaves it as it was and answers length 0
pub record Builds (texts : List Bounded) (message buffer after : List ℕ) (answer : Built) : Type 0 where
  pub refusal : answer.refusal ≡ build_refusal texts (length message) (length buffer)
  pub len : answer.len ≡ cond (eqb answer.refusal accepted) (length message) 0
  pub written : after ≡ cond (eqb answer.refusal accepted) (message ++ drop (length message) buffer) buffer

-- a line's end
abbrev pub crlf : List ℕ
crlf = 13 ∷ 10 ∷ []

-- a header as it is written
pub record HeaderField : Type 0 where
  pub key : List ℕ
  pub value : List ℕ

abbrev pub field : String → List ℕ → HeaderField
field key value = record { key = bytes key; value = value }

-- the header's line, and its end
unfoldable pub header_line : HeaderField → List ℕ
header_line h = h.key ++ bytes ": " ++ h.value ++ crlf

-- the headers' lines, and the blank line behind them
unfoldable pub header_lines : List HeaderField → List ℕ
header_lines [] = crlf
header_lines (h ∷ hs) = header_line h ++ header_lines hs

-- a message: its first line, its headers, a blank line
unfoldable pub message : List ℕ → List HeaderField → List ℕ
message first headers = first ++ crlf ++ header_lines headers

-- first lines
unfoldable pub notify_line : List ℕ
notify_line = bytes "NOTIFY * HTTP/1.1"

unfoldable pub search_line : List ℕ
search_line = bytes "M-SEARCH * HTTP/1.1"

unfoldable pub response_line : List ℕ
response_line = bytes "HTTP/1.1 200 OK"

-- "The group is 239.255.255.250 port 1900"
unfoldable pub host_text : List ℕ
host_text = bytes "239.255.255.250:1900"

-- how long an advertisement lasts, as the Rust has it
unfoldable pub max_age_text : List ℕ
max_age_text = bytes "max-age=1800"

-- "Product name and version come from Cargo's manifest; .. `cotton-ssdp` and `1.0.0`"
unfoldable pub server_text : List ℕ
server_text = bytes "none/0 UPnP/1.0 cotton-ssdp/1.0.0"

-- the headers of the boot and configuration numbers, behind SERVER: none in UPnP 1.0
unfoldable pub boot_headers : List HeaderField
boot_headers = []

-- a search
unfoldable pub search_headers : List ℕ → List HeaderField
search_headers search_target =
    field "HOST" host_text
    ∷ field "MAN" (bytes "\"ssdp:discover\"")
    ∷ field "MX" (bytes "5")
    ∷ field "ST" search_target
    ∷ []

unfoldable pub search_text : List ℕ → List ℕ
search_text search_target = message search_line (search_headers search_target)

-- the answer to a search
unfoldable pub response_headers : List ℕ → List ℕ → List ℕ → List HeaderField
response_headers search_target unique_service_name location =
    field "CACHE-CONTROL" max_age_text
    ∷ field "ST" search_target
    ∷ field "USN" unique_service_name
    ∷ field "LOCATION" location
    ∷ field "SERVER" server_text
    ∷ boot_headers

unfoldable pub response_text : List ℕ → List ℕ → List ℕ → List ℕ
response_text search_target unique_service_name location = message response_line (response_headers search_target unique_service_name location)

-- a service is there
unfoldable pub notify_headers : List ℕ → List ℕ → List ℕ → List HeaderField
notify_headers notification_type unique_service_name location =
    field "HOST" host_text
    ∷ field "CACHE-CONTROL" max_age_text
    ∷ field "LOCATION" location
    ∷ field "NT" notification_type
    ∷ field "NTS" (bytes "ssdp:alive")
    ∷ field "USN" unique_service_name
    ∷ field "SERVER" server_text
    ∷ boot_headers

unfoldable pub notify_text : List ℕ → List ℕ → List ℕ → List ℕ
notify_text notification_type unique_service_name location = message notify_line (notify_headers notification_type unique_service_name location)

-- a service goes
unfoldable pub byebye_headers : List ℕ → List ℕ → List HeaderField
byebye_headers notification_type unique_service_name =
    field "HOST" host_text
    ∷ field "CACHE-CONTROL" max_age_text
    ∷ field "NT" notification_type
    ∷ field "NTS" (bytes "ssdp:byebye")
    ∷ field "USN" unique_service_name
    ∷ field "SERVER" server_text
    ∷ boot_headers

unfoldable pub byebye_text : List ℕ → List ℕ → List ℕ
byebye_text notification_type unique_service_name = message notify_line (byebye_headers notification_type unique_service_name)

-- the texts that each `build_*` is given, with their largest sizes
abbrev pub search_texts : List ℕ → List Bounded
search_texts search_target = at_most type_max search_target ∷ []

abbrev pub byebye_texts : List ℕ → List ℕ → List Bounded
byebye_texts type name = at_most type_max type ∷ at_most name_max name ∷ []

-- for a response and a notify
abbrev pub located_texts : List ℕ → List ℕ → List ℕ → List Bounded
located_texts type name location = at_most type_max type ∷ at_most name_max name ∷ at_most build_location_max location ∷ []
