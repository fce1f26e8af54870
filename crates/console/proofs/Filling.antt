-- Laws of a line as a command: the fields of its word's row are read one after the other, as far as they can be read.
use mathlib.Core.Path.{◌≡◌, refl, sym, ◌∙◌, subst}
use mathlib.Core.List.{List, [], ◌∷◌}
use Prim.Native.Nat.{ℕ, ◌+◌}
use Rattle.std.proofs.Common.{Option, Some, None}
use lib.ListN.{take}
use Rattle.console.specs.Field.{Form, Of, Reads}
use Rattle.text.specs.Bytes.{index_of}
use Rattle.console.specs.Command.{Taking, row_of, word_in, reads, reads_as, command, ReadsAll}
use Rattle.console.specs.declared.field.Fields.{Fields}
use Rattle.console.specs.declared.command.Command.{Command}
use Rattle.console.specs.declared.command.Word.{Word}

-- no fields are left, and the command is there
pub whole : {c : Command} (s : Fields) → ReadsAll [] c s s (Some c)
unfolding reads
whole s = record { line = refl; reads = refl }

module _ {form : Form} {forms : List Form} {f : Taking (form ∷ forms)} {s s' : Fields} where
  -- a field cannot be read
  pub stop : Reads form s s' None → ReadsAll (form ∷ forms) f s s' None
  unfolding reads
  stop t = record { line = t.line; reads = rw (sym t.field) refl }

  -- a field is read, and then those behind it
  pub next : {s'' : Fields} {x : Of form} {r : Option Command} → Reads form s s' (Some x) → ReadsAll forms (f x) s' s'' r → ReadsAll (form ∷ forms) f s s'' r
  unfolding reads
  next {s''} {x} {r} t u = record { line = u.line ∙ t.line; reads = rw (sym t.field, sym t.next) (rw t.line at u.reads) }

-- the word is known
pub of_word : {w w' : Word} {s s' : Fields} {r : Option Command} → w ≡ w' → ReadsAll (row_of w').forms (row_of w').gives s s' r → ReadsAll (row_of w).forms (row_of w).gives s s' r
of_word {s = s} {s'} {r} p t = subst (λ (v : Word). ReadsAll (row_of v).forms (row_of v).gives s s' r) (sym p) t

-- the command of a line whose word ends at byte n
module _ (words : List Word) (line : List ℕ) {n : ℕ} (end : n ≡ index_of 9 line) where
  pub no_word : None ≡ word_in words (take n line) → command words line ≡ None
  unfolding command
  no_word e = rw (← end, ← e) refl

  pub worded : {w : Word} → Some w ≡ word_in words (take n line) → command words line ≡ reads line (row_of w).forms (row_of w).gives (n + 1)
  unfolding command reads_as
  worded e = rw (← end, ← e) refl
