-- The window of a search, in which its searcher listens (document 02, change 2): the claim that an accepted search opens no reply that would be due outside it.
use Rattle.std.specs.Prelude.{ℕ, ◌+◌, ◌*◌, ◌≤◌, ◌<◌, ◌≡◌, min, Some}
use mathlib.Core.List.{List, [], ◌∷◌, Memᴰ as In}
use Rattle.engine.specs.Held.{Text, Advertisement}
use Rattle.engine.specs.Calls.{Call, Query, Asks, acts}
use Rattle.engine.specs.Replies.{due_at}
use Rattle.engine.specs.Arrays.{Engine, held}
use Rattle.engine.specs.Promises.{Answered}
use Rattle.engine.specs.declared.advertisement.ResponseNeeded.{ResponseNeeded}

-- What waits for a name after a search, of what was held before it. A reply that the search opened is due at the search's time or later, less than
-- min(1000·MX, 5000) milliseconds behind it; any other was there, due at that very instant, and where none waits none did.
pub data InTime (q : Query) (before : List Advertisement) (name : Text) (n : ResponseNeeded) : Type 0 where
  opened : (due : ℕ) → due_at n ≡ Some due → q.time ≤ due → due < q.time + min (1000 * q.mx) 5000 → InTime q before name n
  kept : (b : Advertisement) → In b before → b.name ≡ name → due_at b.needed ≡ due_at n → InTime q before name n

-- after every accepted search, whatever the arrays held before it: of what a set of functions gives
abbrev pub EachInTime : (Engine → Call → List ℕ → List ℕ → Answered → Type 0) → Type 0
EachInTime Gives = (e : Engine) (c : Call) (outbox outbox' : List ℕ) (r : Answered) (q : Query) → Gives e c outbox outbox' r → r.answer.refusal ≡ 0 →
    acts c ≡ Asks q ∷ [] → (a : Advertisement) → In a (held r.engine).advertisements → InTime q (held e).advertisements a.name a.needed
