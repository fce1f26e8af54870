-- Text at the front of a lent buffer (document 01, 'The session program': lines in, lines out).
use Rattle.std.specs.Prelude.{ℕ, min, ◌≡◌, List, ◌++◌, length, take}

-- the first `len` bytes of `buffer` are `text`, as far as there is room
pub record Filled (text buffer : List ℕ) (len : ℕ) : Type 0 where
  pub size : len ≡ min (length text) (length buffer)
  pub front : take len buffer ≡ take (length buffer) text

-- whatever text stood in the buffer, `more` stands behind it afterwards
pub record Appends (more buffer : List ℕ) (len : ℕ) (after : List ℕ) (next : ℕ) : Type 0 where
  pub room : length after ≡ length buffer
  pub then : (text : List ℕ) → Filled text buffer len → Filled (text ++ more) after next
