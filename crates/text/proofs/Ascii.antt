-- std's test of ASCII is that of every byte.
use mathlib.Core.Path.{◌≡◌, refl}
use mathlib.Core.Bool.{Bool, true, false, and-false}
use mathlib.Core.List.{List, [], ◌∷◌}
use Prim.Native.Nat.{ℕ, zero, suc, ◌≤◌}
use native.Mathlib.Omega.{arith}
use borrow.Author.Tests.{le-leb, lt-leb}
use Rattle.std.specs.Bool.{MatchBool}
use Rattle.std.specs.Str.{IsAscii, IsNotAscii}
use Rattle.std.specs.List.{slice_index}
use Rattle.text.specs.Range.{every}
use Rattle.text.specs.Utf8.{ascii}

all_ascii : (s : List ℕ) → IsAscii s → every ascii s ≡ true
unfolding every
all_ascii [] h = refl
all_ascii (a ∷ s) h = rw (le-leb a 0x7F (omega (arith, h 0))) (all_ascii s (λ i. h (suc i)))

one_other : (s : List ℕ) (i : ℕ) → 128 ≤ slice_index s i → every ascii s ≡ false
unfolding every
one_other [] i h = absurd (omega (arith, h))
one_other (a ∷ s) zero h = rw (lt-leb a 0x7F (omega (arith, h))) refl
one_other (a ∷ s) (suc i) h = rw (one_other s i h) (and-false (ascii a))

pub is_ascii : (s : List ℕ) (r : Bool) → MatchBool r (IsAscii s) (IsNotAscii s) → r ≡ every ascii s
is_ascii s true h = rw (all_ascii s h) refl
is_ascii s false h = rw (one_other s h.0 h.1) refl
