-- A run of the program: chunks of the input are taken in part by part, what is due is printed before the next part, and then the input ends.
use Rattle.std.specs.Prelude.{◌≡◌, None, List, [], ◌∷◌, ◌++◌, ℕ, drop}
use Rattle.engine.specs.Arrays.{Engine}
use Rattle.program.specs.Steps.{to_print, Takes, Finishes, PrintsPiece}
use Rattle.program.specs.declared.state.State.{State}

-- what stands between two steps
pub record Moment : Type 0 where
  pub state : State
  pub engine : Engine
  pub line : List ℕ
  pub outbox : List ℕ

abbrev pub at : State → Engine → List ℕ → List ℕ → Moment
at s e line outbox = record { state = s; engine = e; line = line; outbox = outbox }

abbrev pub remains : Moment → List ℕ → List ℕ
remains m later = to_print m.state m.engine m.line m.outbox later

-- what is due is printed, piece by piece: from one moment to another, with the text that is written
pub data PrintsDue : Moment → Moment → List ℕ → Type 0 where
  none-due : {m : Moment} → m.state.printing ≡ None → PrintsDue m m []
  piece : {s s' : State} {e : Engine} {line outbox text more : List ℕ} {m : Moment} → PrintsPiece s outbox s' text → PrintsDue (at s' e line outbox) m more
      → PrintsDue (at s e line outbox) m (text ++ more)

-- a chunk is taken in
pub data Chunk : Moment → List ℕ → Moment → List ℕ → Type 0 where
  used_up : {m : Moment} → Chunk m [] m []
  part : {s s' : State} {e e' : Engine} {line line' outbox outbox' chunk text more rest : List ℕ} {used : ℕ} {m m' : Moment} →
      Takes s e line outbox chunk s' e' line' outbox' used text → PrintsDue (at s' e' line' outbox') m more → Chunk m (drop used chunk) m' rest
      → Chunk (at s e line outbox) chunk m' (text ++ (more ++ rest))

-- chunk after chunk, and the end
pub data Run : Moment → List (List ℕ) → List ℕ → Type 0 where
  end : {s s' : State} {e e' : Engine} {line outbox outbox' text more : List ℕ} {m : Moment} → Finishes s e line outbox s' e' outbox' text → PrintsDue (at s' e' line outbox') m more
      → Run (at s e line outbox) [] (text ++ more)
  chunk : {m m' : Moment} {c text rest : List ℕ} {cs : List (List ℕ)} → Chunk m c m' text → Run m' cs rest → Run m (c ∷ cs) (text ++ rest)

-- the chunks in a row
abbrev pub joined : List (List ℕ) → List ℕ
joined [] = []
joined (c ∷ cs) = c ++ joined cs
