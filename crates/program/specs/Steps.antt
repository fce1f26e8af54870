-- The program in steps: what is still to be printed in a state, for whatever input comes later, and what each function of the program does to that. How
-- the input is cut into chunks is nowhere in it but as `chunk ++ later`.
use Rattle.std.specs.Prelude.{ℕ, suc, ◌-◌, ◌≤◌, ◌<◌, ◌≡◌, Bool, true, false, cond, Option, Some, None, option_map, List, [], ◌++◌, length, take, drop, replicate}
use Rattle.std.specs.Bool.{then_some}
use Rattle.std.specs.Option.{unwrap_or}
use Rattle.text.specs.Bytes.{bytes}
use Rattle.console.specs.Input.{Text, Unheard, input, Pending}
use Rattle.console.specs.declared.input.Event.{Event}
use Rattle.console.specs.declared.input.Event.TheVariants.{More, Line, TooLong}
use Rattle.console.specs.Command.{outbox_max}
use Rattle.engine.specs.Arrays.{Engine, held}
use Rattle.dialogue.specs.Asking.{Asked, Nothing, Begin, Lend, Of}
use Rattle.dialogue.specs.Printing.{answer_line, news_line}
use Rattle.dialogue.specs.Outbox.{mark}
use Rattle.engine.specs.declared.answer.Answer.{Answer}
use Rattle.dialogue.specs.declared.session.Reply.{Reply}
use Rattle.program.specs.Program.{Session, Before, Running, Given, first_lent, record_lines, stain, reply, printed}
use Rattle.program.specs.declared.state.State.{State}
use Rattle.program.specs.declared.state.Printing.{Printing}

-- the room that one piece of output is given, which no piece fills
abbrev pub piece_max : ℕ
piece_max = 4096

abbrev pub session_of : Option ℕ → Engine → Session
session_of None e = Before
session_of (Some lent) e = Running (held e) lent

abbrev pub session_in : State → Engine → Session
session_in s e = session_of s.lent e

-- how many bytes are lent to a call: none before an engine has begun
abbrev pub room_in : State → ℕ
room_in s = unwrap_or s.lent 0

-- what is still to be printed of the last answer: the records from `next` on
unfoldable pub due_of : Option Printing → List ℕ → List ℕ
due_of None outbox = []
due_of (Some p) outbox = record_lines (p.records - p.next) p.next (take p.room outbox) ++ stain p.records (take p.room outbox)

abbrev pub due : State → List ℕ → List ℕ
due s outbox = due_of s.printing outbox

-- what is to be printed from a state on, `later` being the rest of the input
unfoldable pub to_print : State → Engine → List ℕ → List ℕ → List ℕ → List ℕ
to_print s e line outbox later = due s outbox ++ printed s.traced (session_in s e) (input (take s.held line ++ later))

-- what a line gave: the text printed at once and what is then due are its text
pub record Gives (g : Given) (t : Bool) (e' : Engine) (outbox' said : List ℕ) (s' : State) : Type 0 where
  pub traced : s'.traced ≡ t
  pub held : s'.held ≡ 0
  pub after : session_in s' e' ≡ g.after
  pub text : said ++ due s' outbox' ≡ g.text

-- what is printed at once of a reply, and the state after it
unfoldable pub reply_text : Bool → Option Answer → List ℕ
reply_text traced None = bytes "?\n"
reply_text traced (Some a) = answer_line a ++ cond traced (news_line a) []

-- `trace` prints the records of an answer besides
abbrev pub printing_of : Bool → ℕ → Option Answer → Option Printing
printing_of traced room a = cond traced (option_map (λ x. record { room = room; next = 0; records = x.records }) a) None

abbrev pub replied : State → Reply → State
replied s r = record {
  traced = s.traced;
  lent = then_some r.begun (unwrap_or s.lent first_lent);
  held = 0;
  printing = printing_of s.traced (room_in s) r.answer;
}

-- what is lent, marked if the program is `trace`
abbrev pub marked : Bool → List ℕ → List ℕ
marked traced outbox = cond traced (replicate (length outbox) mark) outbox

abbrev pub lends : Asked → Bool
lends Nothing = false
lends (Begin seed time) = false
lends (Lend n) = true
lends (Of c) = false

-- ---- what the steps promise
-- a line under way, nothing due, and room for what may come
pub record Ready (s : State) (line outbox out : List ℕ) : Type 0 where
  pub under : Pending (take s.held line) line s.held
  pub printed : s.printing ≡ None
  pub lent : length outbox ≡ outbox_max
  pub room : piece_max ≤ length out

-- the state before with so many bytes of a line held
abbrev pub holding : State → ℕ → State
holding s n = record s { held = n }

-- how many bytes of a chunk are used up: all of them where the line goes on
abbrev pub used_by : Event → ℕ → ℕ
used_by (More n) all = all
used_by (Line len used) all = used
used_by (TooLong used) all = used

-- a line that goes on, one that has ended, and one that is too long
abbrev pub Replies : Event → State → Engine → List ℕ → List ℕ → Engine → List ℕ → List ℕ → State → Type 0
Replies (More n) s e line outbox e' outbox' text s' = (s' ≡ holding s n) × (e' ≡ e) × (outbox' ≡ outbox) × (text ≡ [])
Replies (Line len used) s e line outbox e' outbox' text s' = Gives (reply s.traced (session_in s e) (Text (take len line))) s.traced e' outbox' text s'
Replies (TooLong used) s e line outbox e' outbox' text s' = Gives (reply s.traced (session_in s e) Unheard) s.traced e' outbox' text s'

-- a part of a chunk was taken in
pub record Takes (s : State) (e : Engine) (line outbox chunk : List ℕ) (s' : State) (e' : Engine) (line' outbox' : List ℕ) (used : ℕ) (text : List ℕ) : Type 0 where
  pub under : Pending (take s'.held line') line' s'.held
  pub some : 0 < length chunk → 0 < used
  pub most : used ≤ length chunk
  pub prints : (later : List ℕ) → to_print s e line outbox (chunk ++ later) ≡ text ++ to_print s' e' line' outbox' (drop used chunk ++ later)

-- the input has ended
pub record Finishes (s : State) (e : Engine) (line outbox : List ℕ) (s' : State) (e' : Engine) (outbox' text : List ℕ) : Type 0 where
  pub held : s'.held ≡ 0
  pub prints : to_print s e line outbox [] ≡ text ++ to_print s' e' line outbox' []

-- how many pieces are due
abbrev pub pieces_of : Option Printing → ℕ
pieces_of None = 0
pieces_of (Some p) = suc (p.records - p.next)

abbrev pub pieces : State → ℕ
pieces s = pieces_of s.printing

-- a piece of what is due was printed
pub record PrintsPiece (s : State) (outbox : List ℕ) (s' : State) (text : List ℕ) : Type 0 where
  pub held : s'.held ≡ s.held
  pub fewer : pieces s' < pieces s
  pub prints : (e : Engine) (line later : List ℕ) → to_print s e line outbox later ≡ text ++ to_print s' e line outbox later

-- ---- steps one after the other: `whole` was to be taken in and `rest` still is, whatever comes later. Some text was given for it: that this is what is
-- written is no matter of a contract
pub record Hands (s : State) (e : Engine) (line outbox whole : List ℕ) (s' : State) (e' : Engine) (line' outbox' rest : List ℕ) : Type 0 where
  pub text : List ℕ
  pub prints : (later : List ℕ) → to_print s e line outbox (whole ++ later) ≡ text ++ to_print s' e' line' outbox' (rest ++ later)

-- some input was taken in whole
pub record Reads (s : State) (e : Engine) (line outbox : List ℕ) (s' : State) (e' : Engine) (line' outbox' : List ℕ) : Type 0 where
  pub input : List ℕ
  pub hands : Hands s e line outbox input s' e' line' outbox' []
