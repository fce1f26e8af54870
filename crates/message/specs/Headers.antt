-- The header of a key in a datagram: document 01, 'Messages', its first four sentences.
use Rattle.std.specs.Prelude.{ℕ, suc, ◌+◌, Bool, cond, ◌&&◌, List, [], ◌∷◌, Option, None, Some, map, ltb, length, take, drop}
use Rattle.text.specs.Bytes.{bytes, index_of, equal_upper}
use Rattle.text.specs.Lines.{lines, bare}
use Rattle.text.specs.White.{trimmed}
use Rattle.text.specs.declared.white.Place.{Place}
use Rattle.message.specs.declared.headers.Key.{Key}
use Rattle.message.specs.declared.headers.Key.TheVariants.{Nt, St, Mx, Nts, Usn, Location}
use Rattle.message.specs.declared.headers.Headers.{Headers}

-- what a datagram has under a key: nothing, or a value at its place
abbrev pub Header : Type 0
Header = Option Place

-- "split at its first colon": the place of a line's first colon; the line's length if it has none
abbrev pub colon : List ℕ → ℕ
colon line = index_of 58 line

-- whether a line has a colon; "lines without a colon are skipped"
abbrev pub has_colon : List ℕ → Bool
has_colon line = ltb (colon line) (length line)

-- "The key is ASCII upper-cased and not trimmed"
abbrev pub has_key : List ℕ → List ℕ → Bool
has_key key line = has_colon line && equal_upper (take (colon line) line) key

-- a place of a part, in the whole that has the part from `start` on
abbrev pub shifted : ℕ → Place → Place
shifted start p = record { start = start + p.start; len = p.len }

-- "the value is trimmed": its place in the line; an all-blank value starts right behind the colon
unfoldable pub value_of : List ℕ → Place
value_of line = shifted (colon line + 1) (trimmed (drop (colon line + 1) line))

-- what a line that starts at `at` of the datagram holds for a key
unfoldable pub line_header : List ℕ → ℕ → List ℕ → Header
line_header key at line = cond (has_key key line) (Some (shifted at (value_of line))) None

-- "The last line of a key wins": what is later in the datagram, else what came before
abbrev pub later : Header → Header → Header
later (Some p) earlier = Some p
later None earlier = earlier

-- the header of a key in lines that start at `at` of the datagram; "reading goes on past blank lines"
unfoldable pub header_in : List ℕ → ℕ → List (List ℕ) → Header
header_in key at [] = None
header_in key at (line ∷ rest) = later (header_in key (at + length line) rest) (line_header key at (bare line))

-- "Each line after the first"
unfoldable pub after_first : List ℕ → List (List ℕ) → Header
after_first key [] = None
after_first key (first ∷ rest) = header_in key (length first) rest

-- the header of a key in a datagram
unfoldable pub header : List ℕ → List ℕ → Header
header datagram key = after_first key (lines datagram)

-- the keys that are looked up in one reading, in the order of the code's table
unfoldable pub keys : List (List ℕ)
keys = bytes "NT" ∷ bytes "ST" ∷ bytes "MX" ∷ bytes "NTS" ∷ bytes "USN" ∷ bytes "LOCATION" ∷ []

-- which of some keys a text is, once in upper case; their count if it is none of them
unfoldable pub key_index : List (List ℕ) → List ℕ → ℕ
key_index [] text = 0
key_index (key ∷ rest) text = cond (equal_upper text key) 0 (suc (key_index rest text))

-- which of the keys a line has; their count if it has none of them
unfoldable pub line_key : List ℕ → ℕ
line_key line = cond (has_colon line) (key_index keys (take (colon line) line)) 6

-- the place of a key among them; of no key their count
abbrev pub place_of : Key → ℕ
place_of Nt = 0
place_of St = 1
place_of Mx = 2
place_of Nts = 3
place_of Usn = 4
place_of Location = 5

abbrev pub number_of : Option Key → ℕ
number_of None = 6
number_of (Some key) = place_of key

-- the header of a key in the lines from `from` on, and the headers of all the keys
abbrev pub header_from : List ℕ → ℕ → List ℕ → Header
header_from s from key = header_in key from (lines (drop from s))

abbrev pub headers_from : List ℕ → ℕ → List Header
headers_from s from = map (header_from s from) keys

-- the code's table of headers, in the order of the keys
abbrev pub listed : Headers → List Header
listed h = h.nt ∷ h.st ∷ h.mx ∷ h.nts ∷ h.usn ∷ h.location ∷ []
