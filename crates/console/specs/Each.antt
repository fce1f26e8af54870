-- What is said of each byte of a text, or written for each of its numbers, in a row.
use Rattle.std.specs.List.{list_all}
use Rattle.std.specs.Prelude.{ℕ, Bool, List, [], ◌∷◌, ◌++◌}

-- f of each, in a row
unfoldable pub each : (ℕ → List ℕ) → List ℕ → List ℕ
each f [] = []
each f (x ∷ s) = f x ++ each f s

-- f holds of each
abbrev pub all : (ℕ → Bool) → List ℕ → Bool
all f s = list_all f s
