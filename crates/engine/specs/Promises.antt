-- What every public call promises: its answer, what the arrays hold after it, and the outbox; refused, the arrays are the very ones that came
-- (document 01, 'Who can be turned away').
use Rattle.std.specs.Prelude.{ℕ, ◌≡◌, List}
use Rattle.engine.specs.Calls.{Call}
use Rattle.engine.specs.Layout.{written}
use Rattle.engine.specs.Refusals.{new_refusal}
use Rattle.engine.specs.Engine.{refusal_of, step, new_step}
use Rattle.engine.specs.Arrays.{Engine, held}
use Rattle.engine.specs.declared.answer.Answer.{Answer}

-- a call's answer with the engine after it: the contents of the five arrays
pub record Answered : Type 0 where
  pub engine : Engine
  pub answer : Answer

abbrev pub answered : Engine → Answer → Answered
answered e r = record { engine = e; answer = r }

pub record Answers (e : Engine) (c : Call) (outbox outbox' : List ℕ) (r : Answered) : Type 0 where
  pub answer : r.answer ≡ (step (held e) c).answer
  pub engine : held r.engine ≡ (step (held e) c).after
  pub sent : outbox' ≡ written (step (held e) c).sent outbox
  pub untouched : (refusal_of (held e) c ≡ 0 → ⊥) → r.engine ≡ e

-- and `new`: a refused one leaves an engine with that seed at time 0
pub record Begins (seed time : ℕ) (r : Answered) : Type 0 where
  pub answer : r.answer ≡ (new_step (new_refusal time) seed time).answer
  pub engine : held r.engine ≡ (new_step (new_refusal time) seed time).after
