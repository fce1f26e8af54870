-- A line as a command (document 01, 'The session program'): the table of the words, and how a line is read by it.
use Rattle.std.specs.Prelude.{ℕ, ◌+◌, ◌≡◌, cond, Option, Some, None, List, [], ◌∷◌, ltb, length, take}
use Rattle.std.specs.List.{find}
use Rattle.std.specs.Option.{option_and_then}
use Rattle.text.specs.Number.{max64}
use Rattle.text.specs.Bytes.{bytes, equal, index_of}
use Rattle.console.specs.Field.{Form, U16, U32, UpTo, Address, Text, Rest, Hex, Of, field_at, next_at}
use Rattle.console.specs.declared.field.Fields.{Fields}
use Rattle.console.specs.declared.command.Word.{Word}
use Rattle.console.specs.declared.command.Word.TheVariants as word
use Rattle.console.specs.declared.command.Command.{Command}
use Rattle.console.specs.declared.command.Command.TheVariants.{New, NewLink, DeletedLink, NewAddress, DeletedAddress, Subscribe, Advertise, Deadvertise, Refresh, Datagram, Timeout, Reset, Lend, HexDatagram, NewHexAddress, DeletedHexAddress}

-- a command that still lacks fields of these forms
abbrev pub Taking : List Form → Type 0
Taking [] = Command
Taking (form ∷ forms) = Of form → Taking forms

-- a row of the table: the word, the forms of its fields in order, and the command that they make
pub record Row : Type 0 where
  pub word : List ℕ
  pub forms : List Form
  pub gives : Taking forms

abbrev time : Form
time = UpTo max64

-- the most bytes that an `outbox` line can lend
abbrev pub outbox_max : ℕ
outbox_max = 300000

abbrev pub row_of : Word → Row
row_of word.New = record { word = bytes "new"; forms = U32 ∷ time ∷ []; gives = New }
row_of word.Link = record { word = bytes "link"; forms = U32 ∷ U32 ∷ U32 ∷ []; gives = NewLink }
row_of word.Addr = record { word = bytes "addr"; forms = U32 ∷ Address ∷ []; gives = NewAddress }
row_of word.Advertise = record { word = bytes "advertise"; forms = Text ∷ Text ∷ Text ∷ []; gives = Advertise }
row_of word.Data = record { word = bytes "data"; forms = time ∷ Address ∷ U16 ∷ Address ∷ Rest ∷ []; gives = Datagram }
row_of word.Timeout = record { word = bytes "timeout"; forms = time ∷ []; gives = Timeout }
row_of word.Dellink = record { word = bytes "dellink"; forms = U32 ∷ U32 ∷ []; gives = DeletedLink }
row_of word.Deladdr = record { word = bytes "deladdr"; forms = U32 ∷ Address ∷ []; gives = DeletedAddress }
row_of word.Subscribe = record { word = bytes "subscribe"; forms = Text ∷ []; gives = Subscribe }
row_of word.Deadvertise = record { word = bytes "deadvertise"; forms = Text ∷ []; gives = Deadvertise }
row_of word.Refresh = record { word = bytes "refresh"; forms = []; gives = Refresh }
row_of word.Reset = record { word = bytes "reset"; forms = time ∷ []; gives = Reset }
row_of word.Outbox = record { word = bytes "outbox"; forms = UpTo outbox_max ∷ []; gives = Lend }
row_of word.Hexdata = record { word = bytes "hexdata"; forms = time ∷ Address ∷ U16 ∷ Address ∷ Hex 2000 ∷ []; gives = HexDatagram }
row_of word.Hexaddr = record { word = bytes "hexaddr"; forms = U32 ∷ Hex 32 ∷ []; gives = NewHexAddress }
row_of word.Hexdeladdr = record { word = bytes "hexdeladdr"; forms = U32 ∷ Hex 32 ∷ []; gives = DeletedHexAddress }

-- the words that each program knows
abbrev pub session_words : List Word
session_words =
    word.New ∷ word.Link ∷ word.Addr ∷ word.Advertise ∷ word.Data ∷ word.Timeout ∷ word.Dellink ∷ word.Deladdr ∷ word.Subscribe ∷ word.Deadvertise ∷ word.Refresh
    ∷ word.Reset ∷ []

abbrev pub trace_words : List Word
trace_words = word.Outbox ∷ word.Hexdata ∷ word.Hexaddr ∷ word.Hexdeladdr ∷ session_words

-- the word that a text is
abbrev pub word_in : List Word → List ℕ → Option Word
word_in words s = find (λ w. equal s (row_of w).word) words

-- the fields of a line from byte `at` on, as many as there are forms and no more
unfoldable pub reads : List ℕ → (forms : List Form) → Taking forms → ℕ → Option Command
reads line [] c at = cond (ltb (length line) at) (Some c) None
reads line (form ∷ forms) f at = option_and_then (λ x. reads line forms (f x) (next_at line at form)) (field_at line at form)

-- the command of a line, by the words that the program knows
unfoldable pub reads_as : List ℕ → Row → ℕ → Option Command
reads_as line row at = reads line row.forms row.gives at

unfoldable pub command : List Word → List ℕ → Option Command
command words line = option_and_then (λ w. reads_as line (row_of w) (index_of 9 line + 1)) (word_in words (take (index_of 9 line) line))

-- fields of these forms are read, and it is left to see that there are no more
pub record ReadsAll (forms : List Form) (f : Taking forms) (s s' : Fields) (r : Option Command) : Type 0 where
  pub line : s'.line.now ≡ s.line.now
  pub reads : reads s.line.now forms f s.at ≡ option_and_then (λ c. cond (ltb (length s.line.now) s'.at) (Some c) None) r

-- the fields of a row
abbrev pub Fills : Row → Fields → Fields → Option Command → Type 0
Fills row s s' r = ReadsAll row.forms row.gives s s' r
