-- The fields of a line (document 01, 'The session program'): parted by tabs, each read as its form.
use Rattle.std.specs.Prelude.{ℕ, ◌+◌, ◌/◌, ◌≡◌, Bool, true, false, cond, ◌&&◌, Option, Some, None, IfSome, IfNone, MatchOption, List, leb, length, take, drop}
use Rattle.std.specs.Borrow.{Bor}
use Rattle.text.specs.Number.{number, max16, max32}
use Rattle.text.specs.Bytes.{index_of}
use Rattle.text.specs.declared.white.Place.{Place}
use Rattle.console.specs.Address.{address}
use Rattle.console.specs.Hexadecimal.{hexadecimal}
use Rattle.console.specs.declared.field.Fields.{Fields}

-- what a field holds: a number of 16 or 32 bits, or one not above a largest; a dotted address; any text without a tab; the rest of the line; hexadecimal of at most
-- so many bytes
pub data Form : Type 0 where
  U16 : Form
  U32 : Form
  UpTo : ℕ → Form
  Address : Form
  Text : Form
  Rest : Form
  Hex : ℕ → Form

-- what a field of a form is read as; a text is a part of the line
abbrev pub Of : Form → Type 0
Of U16 = ℕ
Of U32 = ℕ
Of (UpTo max) = ℕ
Of Address = ℕ
Of Text = Place
Of Rest = Place
Of (Hex max) = Place

-- the rest of the line
abbrev pub is_rest : Form → Bool
is_rest U16 = false
is_rest U32 = false
is_rest (UpTo max) = false
is_rest Address = false
is_rest Text = false
is_rest Rest = true
is_rest (Hex max) = false

-- how far a field reaches that begins where s does: to the next tab, or to the line's end
unfoldable pub extent : Form → List ℕ → ℕ
extent form s = cond (is_rest form) (length s) (index_of 9 s)

-- a part of the line
abbrev pub part : ℕ → List ℕ → Place
part start s = record { start = start; len = length s }

-- hexadecimal of at most so many bytes
unfoldable pub hex_part : ℕ → ℕ → List ℕ → Option Place
hex_part max start s = cond (hexadecimal s && leb (length s / 2) max) (Some (part start s)) None

-- the field s, which begins at byte `start` of the line, as its form has it
abbrev pub read_as : (form : Form) → ℕ → List ℕ → Option (Of form)
read_as U16 start s = number max16 s
read_as U32 start s = number max32 s
read_as (UpTo max) start s = number max s
read_as Address start s = address s
read_as Text start s = Some (part start s)
read_as Rest start s = Some (part start s)
read_as (Hex max) start s = hex_part max start s

-- the field that begins at byte `at` of the line, if there is one that can be read as its form
unfoldable pub field_at : List ℕ → ℕ → (form : Form) → Option (Of form)
field_at line at form = cond (leb at (length line)) (read_as form at (take (extent form (drop at line)) (drop at line))) None

-- where the field behind it begins: one byte past the line's end if there is none
unfoldable pub next_at : List ℕ → ℕ → Form → ℕ
next_at line at form = at + extent form (drop at line) + 1

-- the next field of a line is read as its form; behind one that cannot be read the line goes on as behind any other, and where there is none it goes on at that place
pub record Reads (form : Form) (s s' : Fields) (r : Option (Of form)) : Type 0 where
  pub line : s'.line.now ≡ s.line.now
  pub field : r ≡ field_at s.line.now s.at form
  pub next : IfSome r (λ _. s'.at ≡ next_at s.line.now s.at form)
  pub unread : IfNone r (s'.at ≡ cond (leb s.at (length s.line.now)) (next_at s.line.now s.at form) s.at)

-- the text of the next field, lent out of the line
abbrev pub ReadsPart : Fields → Fields → Option (Bor (List ℕ)) → Type 0
ReadsPart s s' r =
    MatchOption r (Reads Text s s' None) (λ t. (p : Place) × (Reads Text s s' (Some p) × (t.now ≡ take p.len (drop p.start s'.line.now))))
