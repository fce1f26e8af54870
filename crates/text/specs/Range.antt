-- Tests of bytes and code points: a range, as document 01 and RFC 3629 write it, and a test of every byte of a text.
use Rattle.std.specs.Prelude.{ℕ, Bool, true, ◌&&◌, List, [], ◌∷◌, leb}

-- n lies in low..high, both ends included
abbrev pub within : ℕ → ℕ → ℕ → Bool
within low high n = leb low n && leb n high

-- f holds of every byte of s
unfoldable pub every : (ℕ → Bool) → List ℕ → Bool
every f [] = true
every f (a ∷ s) = f a && every f s
