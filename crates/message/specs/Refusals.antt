-- The refusal numbers of document 01, 'Who can be turned away', that messages give.
use Rattle.std.specs.Prelude.{ℕ}

-- not refused
abbrev pub accepted : ℕ
accepted = 0

-- "3 a text over its size (a location in `build_*`: 135)"
abbrev pub text_over_size : ℕ
text_over_size = 3

-- "4 a text not UTF-8, holding byte 10 or 13, or starting or ending in white space"
abbrev pub text_not_good : ℕ
text_not_good = 4

-- "6 build buffer shorter than the message"
abbrev pub buffer_short : ℕ
buffer_short = 6

-- "7 empty"
abbrev pub datagram_empty : ℕ
datagram_empty = 7

-- "8 any other `parse` error"
abbrev pub datagram_invalid : ℕ
datagram_invalid = 8
