-- Laws of calls that a line asks for: what is read into a buffer, and what a reply promises.
use mathlib.Core.Path.{◌≡◌, refl, sym, ◌∙◌, ap, subst}
use mathlib.Core.Bool.{Bool, true, false}
use mathlib.Core.List.{List, [], ◌∷◌, ◌++◌}
use Prim.Native.Nat.{ℕ}
use lib.ListN.{length, take, drop}
use native.Mathlib.Omega.{arith}
use Rattle.std.proofs.Common.{Some, None}
use Rattle.console.specs.Buffer.{Filled}
use Rattle.console.specs.declared.command.Command.{Command}
use Rattle.console.specs.declared.command.Command.TheVariants as line
use Rattle.engine.specs.Calls.{Call}
use Rattle.engine.specs.Records.{Record}
use Rattle.engine.specs.Layout.{layout, written}
use Rattle.engine.specs.Arrays.{Engine}
use Rattle.engine.specs.Promises.{answered, Answers}
use Rattle.engine.specs.declared.answer.Answer.{Answer}
use Rattle.dialogue.specs.Asking.{Asked, Of, asked}
use Rattle.dialogue.specs.Obeying.{Unheard, Obeys}
use Rattle.dialogue.specs.declared.session.Reply.{Reply}

-- the front of a buffer that was filled with what a part of the line is read as
pub front_of : (read : List ℕ → List ℕ) (room : ℕ) {text part buffer front : List ℕ} {n : ℕ} → front ≡ take n buffer → Filled (read text) buffer n → length buffer ≡ room → text ≡ part → front ≡ take room (read part)
front_of read room {text} f g h p = f ∙ g.front ∙ ap (λ (k : ℕ). take k (read text)) h ∙ ap (λ (x : List ℕ). take room (read x)) p

nothing-in_front : (a b : List ℕ) → [] ≡ a ++ b → a ≡ []
nothing-in_front [] b p = refl
nothing-in_front (x ∷ a) b p = absurd (omega (arith, ap length p))

written-nothing : (rs : List Record) (o : List ℕ) → [] ≡ written rs [] → o ≡ written rs o
unfolding written
written-nothing rs o p = rw (nothing-in_front (layout rs) (drop (length (layout rs)) []) p)

-- a call that is lent no outbox leaves any outbox as it is
pub lent_none : {t t' : Engine} {c : Call} {r : Answer} (o : List ℕ) → Answers t c [] [] (answered t' r) → Answers t c o o (answered t' r)
lent_none o a = record { answer = a.answer; engine = a.engine; sent = written-nothing _ o a.sent; untouched = a.untouched }

-- a call was made, and this is its answer
pub called : {x : Asked} {c : Call} {e e' : Engine} {o o' : List ℕ} {a : Answer} → x ≡ Of c → Answers e c o o' (answered e' a) → Obeys true x e o o' e' (record { begun = true; answer = Some a })
called {c = c} {e} {e'} {o} {o'} {a} p h =
    subst (λ (y : Asked). Obeys true y e o o' e' (record { begun = true; answer = Some a })) (sym p)
    (record { outcome = record { answer = a; heard = refl; answers = h; begun = refl } })

-- the same of a call that is lent no outbox
pub called_alone : {x : Asked} {c : Call} {e e' : Engine} (o : List ℕ) {a : Answer} → x ≡ Of c → Answers e c [] [] (answered e' a) → Obeys true x e o o e' (record { begun = true; answer = Some a })
called_alone o p h = called p (lent_none o h)

-- what is not read is not heard, nor is any other line before an accepted `new`
pub unheard-nothing : (s : List ℕ) (room : ℕ) (begun : Bool) {e e' : Engine} {o o' : List ℕ} {r : Reply} → Unheard begun e o o' e' r → Obeys begun (asked s room None) e o o' e' r
unfolding asked
unheard-nothing s room true u = record { outcome = u }
unheard-nothing s room false u = record { outcome = u }

pub unheard-first : (s : List ℕ) (room : ℕ) (k : Command) {e e' : Engine} {o o' : List ℕ} {r : Reply} → ((seed time : ℕ) → k ≡ line.New seed time → ⊥) → Unheard false e o o' e' r
    → Obeys false (asked s room (Some k)) e o o' e' r
unfolding asked
unheard-first s room (line.New seed time) h u = absurd (h seed time refl)
unheard-first s room _ h u = record { outcome = u }
