-- UTF-8 (document 01, 'Text rules'; RFC 3629, section 4), byte by byte: a lead byte fixes how many bytes follow it and the range of the first of them.
use Rattle.std.specs.Prelude.{ℕ, zero, suc, Bool, true, false, cond, ◌&&◌, List, [], ◌∷◌, leb, eqb}
use Rattle.text.specs.Range.{within}
use Rattle.text.specs.declared.utf8.Lead.{Lead}

-- `tail` bytes follow, the first of them in low..high
abbrev pub expects : ℕ → ℕ → ℕ → Lead
expects tail low high = record { tail = tail; low = low; high = high }

-- document 01's ranges of lead bytes; a byte that begins no character expects a second byte in the empty range 1..0
unfoldable pub lead_of : ℕ → Lead
lead_of b =
    cond (leb b 0x7F) (expects 0 0x80 0xBF)
    (cond (within 0xC2 0xDF b) (expects 1 0x80 0xBF)
    (cond (eqb b 0xE0) (expects 2 0xA0 0xBF)
    (cond (within 0xE1 0xEC b) (expects 2 0x80 0xBF)
    (cond (eqb b 0xED) (expects 2 0x80 0x9F)
    (cond (within 0xEE 0xEF b) (expects 2 0x80 0xBF)
    (cond (eqb b 0xF0) (expects 3 0x90 0xBF)
    (cond (within 0xF1 0xF3 b) (expects 3 0x80 0xBF)
    (cond (eqb b 0xF4) (expects 3 0x80 0x8F)
    (expects 1 1 0)))))))))

-- what is left of a text is well formed: first come the `tail` bytes that a character still lacks, the next of them in low..high
unfoldable pub rest : ℕ → ℕ → ℕ → List ℕ → Bool
rest zero low high [] = true
rest (suc tail) low high [] = false
rest zero low high (b ∷ s) = rest (lead_of b).tail (lead_of b).low (lead_of b).high s
rest (suc tail) low high (b ∷ s) = within low high b && rest tail 0x80 0xBF s

-- a text is UTF-8
unfoldable pub utf8 : List ℕ → Bool
utf8 s = rest 0 0x80 0xBF s

-- a byte that is a character by itself: U+0000..007F
abbrev pub ascii : ℕ → Bool
ascii b = leb b 0x7F

-- the `tail` bytes that a character lacks stand at the front of s, the first of them in low..high
unfoldable pub follows : ℕ → ℕ → ℕ → List ℕ → Bool
follows zero low high s = true
follows (suc tail) low high [] = false
follows (suc tail) low high (b ∷ s) = within low high b && follows tail 0x80 0xBF s
