-- The input's lines (document 01, 'The session program' and 'Text rules'), and how they are gathered from chunks of the input.
use Rattle.std.specs.Prelude.{ℕ, suc, ◌+◌, min, ◌≤◌, ◌≡◌, Bool, true, cond, not, List, [], ◌∷◌, ◌++◌, map, eqb, leb, ltb, length, take}
use Rattle.text.specs.Bytes.{index_of}
use Rattle.text.specs.Lines.{lines, bare, first_line}
use Rattle.console.specs.Each.{all}
use Rattle.console.specs.Buffer.{Filled}
use Rattle.console.specs.declared.input.Event.{Event}
use Rattle.console.specs.declared.input.Event.TheVariants.{More, Line, TooLong}

-- the longest line that is read
abbrev pub line_max : ℕ
line_max = 4096

-- a line without its end, if it is not over 4,096 bytes
pub data Heard : Type 0 where
  Text : List ℕ → Heard
  Unheard : Heard

unfoldable pub heard : List ℕ → Heard
heard l = cond (leb (length l) line_max) (Text l) Unheard

-- the lines of the whole input
unfoldable pub input : List ℕ → List Heard
input s = map (λ l. heard (bare l)) (lines s)

-- the event of a line whose text without its end has n bytes: `used` bytes of the chunk are used up
abbrev pub ended : ℕ → ℕ → Event
ended n used = cond (leb n line_max) (Line n used) (TooLong used)

-- what stands at the front of a buffer, as a line
unfoldable pub event_in : List ℕ → ℕ → Event
event_in buffer used = ended (first_line buffer).len used

abbrev pub not_end : ℕ → Bool
not_end b = not (eqb b 10)

-- the line under way: `text` has no end yet and stands in the buffer, which has room for the longest line and its end
pub record Pending (text buffer : List ℕ) (len : ℕ) : Type 0 where
  pub room : line_max + 2 ≤ length buffer
  pub unended : all not_end text ≡ true
  pub held : Filled text buffer len

-- the bytes of a chunk that belong to the line under way, its end included
unfoldable pub up_to : List ℕ → List ℕ
up_to chunk = take (suc (index_of 10 chunk)) chunk

-- the line ends in this chunk, or goes on
unfoldable pub gathered : List ℕ → List ℕ → ℕ → Event
gathered text chunk room =
    cond (ltb (index_of 10 chunk) (length chunk))
    (ended (length (bare (text ++ up_to chunk))) (suc (index_of 10 chunk)))
    (More (min (length (text ++ up_to chunk)) room))

pub record Gathers (buffer : List ℕ) (len : ℕ) (chunk after : List ℕ) (r : Event) : Type 0 where
  pub room : length after ≡ length buffer
  pub event : (text : List ℕ) → Pending text buffer len → r ≡ gathered text chunk (length buffer)
  pub held : (text : List ℕ) → Pending text buffer len → Filled (text ++ up_to chunk) after (min (length (text ++ up_to chunk)) (length buffer))

-- the input ends: what is under way is a line, if there is anything
unfoldable pub finished : List ℕ → Event
finished [] = More 0
finished (b ∷ text) = ended (length (bare (b ∷ text))) 0
