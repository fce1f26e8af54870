-- A call whose answer is refusal 0 was accepted by what was held.
use mathlib.Core.Path.{◌≡◌, refl, sym, ◌∙◌, ap}
use mathlib.Core.List.{List}
use Prim.Native.Nat.{ℕ, zero, suc}
use Rattle.engine.specs.Held.{Held}
use Rattle.engine.specs.Calls.{Call}
use Rattle.engine.specs.Engine.{refusal_of, Step, accepted, unless, step}
use Rattle.engine.specs.Arrays.{Engine, held}
use Rattle.engine.specs.Promises.{Answered, Answers}
use Rattle.engine.specs.declared.answer.Answer.{Answer}

unless-refusal : (k : ℕ) (h : Held) (s : Step) → s.answer.refusal ≡ 0 → (unless k h s).answer.refusal ≡ k
unless-refusal zero h s e = e
unless-refusal (suc k) h s e = refl

pub step-refusal : (h : Held) (c : Call) → (step h c).answer.refusal ≡ refusal_of h c
unfolding step accepted
step-refusal h c = unless-refusal (refusal_of h c) h (accepted h c) refl

pub was_accepted : {e : Engine} {c : Call} {outbox outbox' : List ℕ} {r : Answered} → Answers e c outbox outbox' r → r.answer.refusal ≡ 0 → refusal_of (held e) c ≡ 0
was_accepted {e} {c} d z = sym (step-refusal (held e) c) ∙ sym (ap (λ (x : Answer). x.refusal) d.answer) ∙ z
