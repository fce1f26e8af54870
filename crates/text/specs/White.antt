-- White space and trimming from both ends (document 01, 'Text rules'): the listed code points, in the bytes that RFC 3629, section 3, gives them.
use Rattle.std.specs.Prelude.{ℕ, zero, suc, ◌+◌, ◌-◌, ◌*◌, ◌%◌, Bool, cond, ◌&&◌, ◌||◌, List, [], ◌∷◌, reverse, leb, eqb, length, get_or, drop}
use Rattle.text.specs.Range.{within}
use Rattle.text.specs.Utf8.{lead_of}
use Rattle.text.specs.declared.white.Place.{Place}

-- document 01's list: U+0009..000D, 0020, 0085, 00A0, 1680, 2000..200A, 2028, 2029, 202F, 205F, 3000
unfoldable pub white_space : ℕ → Bool
white_space c =
    within 0x0009 0x000D c || eqb c 0x0020 || eqb c 0x0085 || eqb c 0x00A0 || eqb c 0x1680 || within 0x2000 0x200A c
    || eqb c 0x2028 || eqb c 0x2029 || eqb c 0x202F || eqb c 0x205F || eqb c 0x3000

-- a and b begin a character of 1 + tail bytes
unfoldable pub begins : ℕ → ℕ → ℕ → Bool
begins tail a b = eqb (lead_of a).tail tail && within (lead_of a).low (lead_of a).high b

-- one byte is a white-space character
abbrev pub white1 : ℕ → Bool
white1 a = leb a 0x7F && white_space a

-- two bytes are one: 110xxxxx 10xxxxxx, whose x are the code point
abbrev pub white2 : ℕ → ℕ → Bool
white2 a b = begins 1 a b && white_space (a % 32 * 64 + b % 64)

-- and three: 1110xxxx 10xxxxxx 10xxxxxx
abbrev pub white3 : ℕ → ℕ → ℕ → Bool
white3 a b c = begins 2 a b && within 0x80 0xBF c && white_space ((a % 16 * 64 + b % 64) * 64 + c % 64)

-- how many bytes the tests of one, two and three bytes stand for; no white space has four
abbrev pub width : Bool → Bool → Bool → ℕ
width one two three = cond one 1 (cond two 2 (cond three 3 0))

-- how many bytes the white-space character has that starts with a, b, c; 0 if none does
abbrev pub opening : ℕ → ℕ → ℕ → ℕ
opening a b c = width (white1 a) (white2 a b) (white3 a b c)

-- and the one that ends with c, with b before it and a before that
abbrev pub closing : ℕ → ℕ → ℕ → ℕ
closing c b a = width (white1 c) (white2 b c) (white3 a b c)

-- such a test of the first three bytes of a text; no character has a byte 0 behind its first
abbrev pub at : (ℕ → ℕ → ℕ → ℕ) → List ℕ → ℕ
at f s = f (get_or s 0 0) (get_or s 1 0) (get_or s 2 0)

-- how many bytes the white-space characters at the front have, k of them being left of one that has begun
unfoldable pub run : (ℕ → ℕ → ℕ → ℕ) → ℕ → List ℕ → ℕ
run f k [] = 0
run f (suc k) (a ∷ s) = suc (run f k s)
run f zero (a ∷ s) = elim (at f (a ∷ s)) [ zero ↦ 0 | suc k ↦ suc (run f k s) ]

-- how many bytes of white space a text has at its front
unfoldable pub leading : List ℕ → ℕ
leading s = run opening 0 s

-- and at its end
unfoldable pub trailing : List ℕ → ℕ
trailing s = run closing 0 (reverse s)

-- the place of a text without white space at its ends; an all-blank text has length 0 and starts at 0 (document 01, 'Messages')
unfoldable pub trimmed : List ℕ → Place
trimmed s =
    cond (leb (length s) (leading s)) (record { start = 0; len = 0 })
    (record { start = leading s; len = length (drop (leading s) s) - trailing (drop (leading s) s) })
