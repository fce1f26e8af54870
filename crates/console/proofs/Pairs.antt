-- Laws of bytes in hexadecimal: a turn of the loop adds the byte of one more pair of digits.
use mathlib.Core.Path.{◌≡◌, sym, ◌∙◌, ap}
use mathlib.Core.List.{List, [], ◌∷◌, ◌++◌}
use Prim.Native.Nat.{ℕ, zero, suc, ◌+◌, ◌*◌, ◌<◌}
use native.Mathlib.Omega.{arith}
use native.Mathlib.Numerals.{add-one}
use lib.ListN.{get_or, drop}
use Rattle.std.specs.Simd.{first_chunks}
use Rattle.std.proofs.lemmas.List.{get_or-take, get_or-drop}
use Rattle.console.specs.Buffer.{Appends}
use Rattle.console.specs.Hexadecimal.{nibble, pairs}
use Rattle.console.proofs.Appending as laws

pub pairs_start : (s b : List ℕ) (len : ℕ) → Appends (pairs 0 s) b len b len
unfolding pairs
pairs_start s b len = laws.nothing b len

pairs_next : (s : List ℕ) (i : ℕ) → pairs (i + 1) s ≡ pairs i s ++ ((16 * nibble (get_or s (2 * i) 0) + nibble (get_or s (2 * i + 1) 0)) ∷ [])
unfolding pairs
pairs_next s i = rw (add-one i)

pub pairs-turn : (s : List ℕ) (i : ℕ) {high low : ℕ} {b b' b'' : List ℕ} {len r r' : ℕ} → high ≡ nibble (get_or s (2 * i) 0) → low ≡ nibble (get_or s (2 * i + 1) 0)
    → Appends (pairs i s) b len b' r → Appends ((16 * high + low) ∷ []) b' r b'' r' → Appends (pairs (i + 1) s) b len b'' r'
pairs-turn s i e g p q = laws.text (laws.◌⨟◌ p q) (sym (pairs_next s i ∙ ap (λ (x : ℕ). pairs i s ++ (x ∷ [])) (omega (arith, e, g))))

-- pair i of the digits of s, as a slice of pairs has it
pub digit-of-pair : (s : List ℕ) (k i j : ℕ) {digits : List (List ℕ)} → digits ≡ first_chunks 2 k s → i < k → j < 2 → get_or (get_or digits i []) j 0 ≡ get_or s (2 * i + j) 0
digit-of-pair s k i j e h g = ap (λ (l : List (List ℕ)). get_or (get_or l i []) j 0) e ∙ go s k i h
  where
    go : (t : List ℕ) (n m : ℕ) → m < n → get_or (get_or (first_chunks 2 n t) m []) j 0 ≡ get_or t (2 * m + j) 0
    go t zero m h = absurd (omega arith)
    go t (suc n) zero h = get_or-take 2 t j 0 g ∙ ap (λ (x : ℕ). get_or t x 0) (omega arith)
    go t (suc n) (suc m) h = go (drop 2 t) n m (omega arith) ∙ get_or-drop 2 t (2 * m + j) 0 ∙ ap (λ (x : ℕ). get_or t x 0) (omega arith)
