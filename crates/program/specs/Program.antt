-- The whole program (document 01, 'The session program'): what is printed for an input. `trace` knows further lines, and prints behind each answer
-- whom the call told and what it sent.
use Rattle.std.specs.Prelude.{ℕ, zero, suc, min, Bool, true, false, cond, Option, List, [], ◌∷◌, ◌++◌, eqb, replicate}
use Rattle.text.specs.Bytes.{bytes}
use Rattle.console.specs.Input.{Heard, Text, Unheard, input}
use Rattle.console.specs.Command.{outbox_max, session_words, trace_words, command}
use Rattle.console.specs.declared.command.Command.{Command}
use Rattle.engine.specs.Sizes.{outbox_size}
use Rattle.engine.specs.Held.{Held}
use Rattle.engine.specs.Layout.{written}
use Rattle.engine.specs.Refusals.{new_refusal}
use Rattle.engine.specs.Engine.{Step, step, new_step}
use Rattle.engine.specs.declared.answer.Answer.{Answer}
use Rattle.dialogue.specs.Asking.{Asked, Nothing, Begin, Lend, Of, asked}
use Rattle.dialogue.specs.Printing.{answer_line, news_line, record_line}
use Rattle.dialogue.specs.Outbox.{mark, record_at, clean}

-- what is lent to the calls of an engine that has just begun
abbrev pub first_lent : ℕ
first_lent = outbox_size

-- what lasts from line to line: no engine, or one that an accepted `new` began, and how many bytes are lent to its calls
pub data Session : Type 0 where
  Before : Session
  Running : Held → ℕ → Session

unfoldable pub lent_in : Session → ℕ
lent_in Before = 0
lent_in (Running h n) = min n outbox_max

-- what a line gives: the text that is printed, and the session after it
pub record Given : Type 0 where
  pub text : List ℕ
  pub after : Session

abbrev pub unread : Session → Given
unread x = record { text = bytes "?\n"; after = x }

-- the lines of records k, k + 1, .., as many as are left
unfoldable pub record_lines : ℕ → ℕ → List ℕ → List ℕ
record_lines zero k outbox = []
record_lines (suc left) k outbox = record_line (record_at k outbox) ++ record_lines left (suc k) outbox

-- `!` where a call wrote what it should not
unfoldable pub stain : ℕ → List ℕ → List ℕ
stain n outbox = cond (clean n outbox) [] (bytes "!\n")

-- of an answer, and of the outbox after it
unfoldable pub printout : Bool → Answer → List ℕ → List ℕ
printout false a outbox = answer_line a
printout true a outbox = answer_line a ++ (news_line a ++ (record_lines a.records 0 outbox ++ stain a.records outbox))

-- `new` is lent no outbox; for any other call of `trace` every byte that is lent is marked
abbrev pub begins : Bool → Step → Given
begins traced x = record { text = printout traced x.answer []; after = cond (eqb x.answer.refusal 0) (Running x.after first_lent) Before }

abbrev pub calls : Bool → ℕ → Step → Given
calls traced n x = record { text = printout traced x.answer (written x.sent (replicate (min n outbox_max) mark)); after = Running x.after n }

unfoldable pub gives : Bool → Session → Asked → Given
gives traced Before Nothing = unread Before
gives traced Before (Begin seed time) = begins traced (new_step (new_refusal time) seed time)
gives traced Before (Lend m) = unread Before
gives traced Before (Of c) = unread Before
gives traced (Running h n) Nothing = unread (Running h n)
gives traced (Running h n) (Begin seed time) = unread (Running h n)
gives traced (Running h n) (Lend m) = record { text = bytes "ok\n"; after = Running h m }
gives traced (Running h n) (Of c) = calls traced n (step h c)

-- a line's command, by the words that the program knows
abbrev pub command_of : Bool → List ℕ → Option Command
command_of traced l = cond traced (command trace_words l) (command session_words l)

-- a line, if it is not over 4,096 bytes
unfoldable pub reply : Bool → Session → Heard → Given
reply traced x (Text l) = gives traced x (asked l (lent_in x) (command_of traced l))
reply traced x Unheard = unread x

-- lines
unfoldable pub printed : Bool → Session → List Heard → List ℕ
printed traced x [] = []
printed traced x (l ∷ ls) = (reply traced x l).text ++ printed traced (reply traced x l).after ls

-- all of the input
unfoldable pub program : Bool → List ℕ → List ℕ
program traced s = printed traced Before (input s)
