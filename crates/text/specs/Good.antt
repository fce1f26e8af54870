-- A text that a host may hand in (document 01, 'Who can be turned away', refusal 4): UTF-8, no byte 10 or 13, no white space at an end.
use Rattle.std.specs.Prelude.{ℕ, Bool, ◌&&◌, List, eqb}
use Rattle.text.specs.Range.{within}
use Rattle.text.specs.Utf8.{utf8}
use Rattle.text.specs.Bytes.{lacks}
use Rattle.text.specs.White.{leading, trailing}

-- a byte that is a character by itself and no white space
abbrev pub visible : ℕ → Bool
visible b = within 33 126 b

-- refusal 4 does not meet the text
unfoldable pub good_text : List ℕ → Bool
good_text s = utf8 s && lacks 10 s && lacks 13 s && eqb (leading s) 0 && eqb (trailing s) 0
