-- A location with another host: document 01, '`target_match` and `rewrite_host`'.
use Rattle.std.specs.Prelude.{ℕ, ◌+◌, ◌/◌, ◌%◌, ◌≤◌, ◌≡◌, Bool, cond, ◌&&◌, List, [], ◌∷◌, ◌++◌, ltb, length, take, drop}
use Rattle.text.specs.Put.{Put}
use Rattle.engine.specs.Target.{colon}
use Rattle.text.specs.Bytes.{bytes, index_of, index_of_text}

-- a decimal digit
abbrev pub digit : ℕ → ℕ
digit n = 48 + n

-- a byte in decimal digits, without leading zeros
unfoldable pub decimal : ℕ → List ℕ
decimal n =
    cond (ltb n 10) (digit (n % 10) ∷ [])
    (cond (ltb n 100) (digit (n / 10 % 10) ∷ digit (n % 10) ∷ [])
    (digit (n / 100) ∷ digit (n / 10 % 10) ∷ digit (n % 10) ∷ []))

-- the same and a dot
abbrev pub decimal_dot : ℕ → List ℕ
decimal_dot n = decimal n ++ (46 ∷ [])

-- the longest dotted address
abbrev pub address_text_max : ℕ
address_text_max = 15

-- 'The dotted address': an IPv4 address, its highest byte first
unfoldable pub dotted : ℕ → List ℕ
dotted a =
    decimal_dot (a / 16777216 % 256) ++ decimal_dot (a / 65536 % 256) ++ decimal_dot (a / 256 % 256) ++ decimal (a % 256)

-- the place of the first `://`
unfoldable pub scheme_end : List ℕ → ℕ
scheme_end location = index_of_text (bytes "://") location

abbrev pub has_scheme : List ℕ → Bool
has_scheme location = ltb (scheme_end location) (length location)

abbrev pub slash : ℕ
slash = 47

-- how much of what follows it goes: 'everything up to its first colon, if that is before the first slash, else up to its first slash; without a slash it all goes'
unfoldable pub host_length : List ℕ → ℕ
host_length s =
    cond (ltb (index_of colon s) (index_of slash s) && ltb (index_of slash s) (length s)) (index_of colon s) (index_of slash s)

-- where the host starts, and where what is kept behind it does
abbrev pub host_start : List ℕ → ℕ
host_start location = scheme_end location + 3

abbrev pub host_end : List ℕ → ℕ
host_end location = host_start location + host_length (drop (host_start location) location)

-- `rewrite_host`: 'no `://`, unchanged. Otherwise' the host goes, and 'the dotted address takes that place'
unfoldable pub rewritten : List ℕ → ℕ → List ℕ
rewritten location address =
    cond (has_scheme location) (take (host_start location) location ++ dotted address ++ drop (host_end location) location) location

-- the rewritten location was written over the start of a buffer: `next` is its length, and that many bytes of the buffer are the location
pub record Rewrites (buffer location : List ℕ) (address : ℕ) (after : List ℕ) (next : ℕ) : Type 0 where
  pub put : Put buffer 0 (rewritten location address) after next
  pub inside : next ≤ length after
  pub front : take next after ≡ rewritten location address
