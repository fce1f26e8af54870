-- A number in decimal, as the programs print it (document 01, 'The session program'): no sign and no leading zero.
use Rattle.std.specs.Prelude.{ℕ, zero, suc, ◌+◌, ◌/◌, ◌%◌, cond, List, [], ◌∷◌, ◌++◌, ltb}

-- the digits of n, the highest first; n has at most k + 1 of them
unfoldable pub figures : ℕ → ℕ → List ℕ
figures zero n = (48 + n) ∷ []
figures (suc k) n = cond (ltb n 10) ((48 + n) ∷ []) (figures k (n / 10) ++ ((48 + n % 10) ∷ []))

-- no number has more digits than one more than its value
unfoldable pub decimal : ℕ → List ℕ
decimal n = figures n n

-- a number and the byte that ends it
unfoldable pub number_then : ℕ → ℕ → List ℕ
number_then end n = decimal n ++ (end ∷ [])
