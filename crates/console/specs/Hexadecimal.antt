-- Bytes in hexadecimal, as `trace` reads them (either case) and prints them (lower case): two digits a byte, the higher first.
use Rattle.std.specs.Prelude.{ℕ, zero, suc, ◌+◌, ◌-◌, ◌*◌, ◌/◌, ◌%◌, Bool, cond, ◌&&◌, ◌||◌, List, [], ◌∷◌, ◌++◌, eqb, ltb, length, get_or}
use Rattle.text.specs.Range.{within}
use Rattle.console.specs.Each.{each, all}

-- the digit of a number below 16
abbrev pub hex_digit : ℕ → ℕ
hex_digit n = cond (ltb n 10) (48 + n) (87 + n)

unfoldable pub hex_byte : ℕ → List ℕ
hex_byte b = hex_digit (b / 16) ∷ hex_digit (b % 16) ∷ []

-- a text's bytes, two digits each
unfoldable pub hex_text : List ℕ → List ℕ
hex_text s = each hex_byte s

-- 0 to 9, A to F, a to f
abbrev pub is_hex_digit : ℕ → Bool
is_hex_digit b = within 48 57 b || within 65 70 b || within 97 102 b

-- the number that a digit stands for; 0 for any other byte
unfoldable pub nibble : ℕ → ℕ
nibble b = cond (within 48 57 b) (b - 48) (cond (within 65 70 b) (b - 55) (cond (within 97 102 b) (b - 87) 0))

-- nothing but digits, and an even count of them
unfoldable pub hexadecimal : List ℕ → Bool
hexadecimal s = eqb (length s % 2) 0 && all is_hex_digit s

-- the first n bytes that s stands for: byte k has digits 2k and 2k + 1
unfoldable pub pairs : ℕ → List ℕ → List ℕ
pairs zero s = []
pairs (suc n) s = pairs n s ++ ((16 * nibble (get_or s (2 * n) 0) + nibble (get_or s (2 * n + 1) 0)) ∷ [])

unfoldable pub unhexed : List ℕ → List ℕ
unhexed s = pairs (length s / 2) s
