-- A dotted address, as document 01, 'The session program', reads it and as `trace` prints it: four numbers of 0 to 255 in decimal, no sign, no leading zero.
use Rattle.std.specs.Prelude.{ℕ, zero, suc, ◌+◌, ◌*◌, cond, ◌&&◌, ◌||◌, Option, None, option_map, List, ◌++◌, eqb, ltb, length, take, drop, get_or}
use Rattle.std.specs.Option.{option_and_then}
use Rattle.text.specs.Number.{number, max8}
use Rattle.text.specs.Bytes.{index_of}
use Rattle.console.specs.Decimal.{number_then}

-- one of the four: a number that does not begin with `+`, nor with `0` and go on
unfoldable pub octet : List ℕ → Option ℕ
octet s = cond (eqb (get_or s 0 0) 43 || (eqb (get_or s 0 0) 48 && ltb 1 (length s))) None (number max8 s)

-- n stands for the octets so far; k octets that end in a dot and the last one follow
unfoldable pub octets : ℕ → ℕ → List ℕ → Option ℕ
octets zero n s = option_map (λ d. n * 256 + d) (octet s)
octets (suc k) n s =
    cond (ltb (index_of 46 s) (length s))
    (option_and_then (λ d. octets k (n * 256 + d) (drop (suc (index_of 46 s)) s)) (octet (take (index_of 46 s) s)))
    None

-- the number that a dotted address stands for, its first octet the highest
unfoldable pub address : List ℕ → Option ℕ
address s = octets 3 0 s

-- the first four bytes of s as a dotted address, and the byte that ends it
unfoldable pub address_then : ℕ → List ℕ → List ℕ
address_then end s = number_then 46 (get_or s 0 0) ++ (number_then 46 (get_or s 1 0) ++ (number_then 46 (get_or s 2 0) ++ number_then end (get_or s 3 0)))
