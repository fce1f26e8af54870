-- Numbers (document 01, 'Text rules'): an optional `+`, one or more digits, leading zeros allowed, not above the width's largest.
use Rattle.std.specs.Prelude.{ℕ, ◌+◌, ◌-◌, ◌*◌, Bool, cond, ◌&&◌, List, [], ◌∷◌, leb, eqb, Option, Some, None}
use Rattle.text.specs.Range.{within, every}

-- the digits s behind those of n
unfoldable pub value : ℕ → List ℕ → ℕ
value n [] = n
value n (d ∷ s) = value (n * 10 + (d - 48)) s

-- nothing but digits
abbrev pub digits : List ℕ → Bool
digits s = every (within 48 57) s

-- digits behind those of n
unfoldable pub more : ℕ → ℕ → List ℕ → Option ℕ
more max n s = cond (digits s && leb (value n s) max) (Some (value n s)) None

-- one or more digits
unfoldable pub unsigned : ℕ → List ℕ → Option ℕ
unsigned max [] = None
unsigned max (d ∷ s) = more max 0 (d ∷ s)

-- the number that a text stands for, if it is one and not above max
unfoldable pub number : ℕ → List ℕ → Option ℕ
number max [] = None
number max (a ∷ s) = cond (eqb a 43) (unsigned max s) (unsigned max (a ∷ s))

-- the largest number of each width
abbrev pub max8 : ℕ
max8 = 0xFF

abbrev pub max16 : ℕ
max16 = 0xFFFF

abbrev pub max32 : ℕ
max32 = 0xFFFF_FFFF

abbrev pub max64 : ℕ
max64 = 0xFFFF_FFFF_FFFF_FFFF
