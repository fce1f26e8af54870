-- What a line does to an engine in its lent arrays (document 01, 'The session program'): 'a `new` after an accepted one, or any other line before an accepted `new` prints `?`'.
use Rattle.std.specs.Prelude.{ℕ, ◌≡◌, Bool, true, false, Some, None, List, eqb}
use Rattle.engine.specs.Calls.{Call}
use Rattle.engine.specs.Arrays.{Engine}
use Rattle.engine.specs.Promises.{answered, Answers, Begins}
use Rattle.engine.specs.declared.answer.Answer.{Answer}
use Rattle.dialogue.specs.Asking.{Asked, Nothing, Begin, Lend, Of}
use Rattle.dialogue.specs.declared.session.Reply.{Reply}

-- `?`: nothing has changed
pub record Unheard (begun : Bool) (e : Engine) (outbox outbox' : List ℕ) (e' : Engine) (r : Reply) : Type 0 where
  pub engine : e' ≡ e
  pub still : r.begun ≡ begun
  pub unheard : r.answer ≡ None
  pub kept : outbox' ≡ outbox

-- the engine begins where `new` is accepted
pub record Begun (seed time : ℕ) (outbox outbox' : List ℕ) (e' : Engine) (r : Reply) : Type 0 where
  pub answer : Answer
  pub heard : r.answer ≡ Some answer
  pub begins : Begins seed time (answered e' answer)
  pub begun : r.begun ≡ eqb answer.refusal 0
  pub kept : outbox' ≡ outbox

pub record Called (e : Engine) (c : Call) (outbox outbox' : List ℕ) (e' : Engine) (r : Reply) : Type 0 where
  pub answer : Answer
  pub heard : r.answer ≡ Some answer
  pub answers : Answers e c outbox outbox' (answered e' answer)
  pub begun : r.begun ≡ true

-- whether an engine has begun, and what the line asks; what is lent is no matter of the engine
abbrev pub Outcome : Bool → Asked → Engine → List ℕ → List ℕ → Engine → Reply → Type 0
Outcome false Nothing e outbox outbox' e' r = Unheard false e outbox outbox' e' r
Outcome false (Begin seed time) e outbox outbox' e' r = Begun seed time outbox outbox' e' r
Outcome false (Lend n) e outbox outbox' e' r = Unheard false e outbox outbox' e' r
Outcome false (Of c) e outbox outbox' e' r = Unheard false e outbox outbox' e' r
Outcome true Nothing e outbox outbox' e' r = Unheard true e outbox outbox' e' r
Outcome true (Begin seed time) e outbox outbox' e' r = Unheard true e outbox outbox' e' r
Outcome true (Lend n) e outbox outbox' e' r = Unheard true e outbox outbox' e' r
Outcome true (Of c) e outbox outbox' e' r = Called e c outbox outbox' e' r

pub record Obeys (begun : Bool) (x : Asked) (e : Engine) (outbox outbox' : List ℕ) (e' : Engine) (r : Reply) : Type 0 where
  pub outcome : Outcome begun x e outbox outbox' e' r
