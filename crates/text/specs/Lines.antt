-- Lines (document 01, 'Text rules'): a line ends at byte 10, and one byte 13 before it goes too; a last line without byte 10 keeps its byte 13.
use Rattle.std.specs.Prelude.{ℕ, ◌-◌, Bool, true, false, cond, List, [], ◌∷◌, eqb, length, take, get_or}
use Rattle.text.specs.declared.lines.Line.{Line}

-- byte b stands before the text of these lines: it is a line by itself if it is an end, else it begins the first of them
abbrev pub before : Bool → ℕ → List (List ℕ) → List (List ℕ)
before true b ls = (b ∷ []) ∷ ls
before false b [] = (b ∷ []) ∷ []
before false b (l ∷ ls) = (b ∷ l) ∷ ls

-- the lines of a text, each with its byte 10, if it has one
unfoldable pub lines : List ℕ → List (List ℕ)
lines [] = []
lines (b ∷ s) = before (eqb b 10) b (lines s)

-- l without its last byte, if that is b
unfoldable pub without : ℕ → List ℕ → List ℕ
without b l = cond (eqb (get_or l (length l - 1) 0) b) (take (length l - 1) l) l

-- a line without its end: byte 10, and one byte 13 before it
unfoldable pub bare : List ℕ → List ℕ
bare l = cond (eqb (get_or l (length l - 1) 0) 10) (without 13 (take (length l - 1) l)) l

-- how long the first of some lines is without its end, and with it
abbrev pub line_of : List (List ℕ) → Line
line_of [] = record { len = 0; next = 0 }
line_of (l ∷ ls) = record { len = length (bare l); next = length l }

-- the first line of a text: its length without its end, and where the next begins; 0 and 0 for an empty text
unfoldable pub first_line : List ℕ → Line
first_line s = line_of (lines s)
