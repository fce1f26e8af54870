-- A text written into a lent buffer (document 01, 'Who can be turned away': "bytes behind a built message keep their values").
use Rattle.std.specs.Prelude.{ℕ, ◌+◌, ◌≤◌, ◌<◌, ◌≡◌, List, ◌++◌, length, take, drop}

-- the buffer with `text` in place of as many bytes from `at` on
unfoldable pub overwritten : List ℕ → ℕ → List ℕ → List ℕ
overwritten buffer at text = take at buffer ++ text ++ drop (at + length text) buffer

-- `text` was written into `buffer` from `at` on: `after` is the buffer then, `next` the place behind the text
pub record Put (buffer : List ℕ) (at : ℕ) (text after : List ℕ) (next : ℕ) : Type 0 where
  pub place : next ≡ at + length text
  pub written : after ≡ overwritten buffer at text

-- what `put` promises of any place and text: one that does not fit writes nothing
pub record Puts (buffer : List ℕ) (at : ℕ) (text after : List ℕ) (next : ℕ) : Type 0 where
  pub fitting : at + length text ≤ length buffer → Put buffer at text after next
  pub otherwise : length buffer < at + length text → (after ≡ buffer) × (next ≡ at)
