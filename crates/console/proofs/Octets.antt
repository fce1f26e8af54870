-- Laws of dotted addresses: one octet after the other, each below 256.
use mathlib.Core.Path.{◌≡◌, refl}
use mathlib.Core.Bool.{true, false, ◌&&◌, ◌||◌}
use mathlib.Core.List.{List}
use Prim.Native.Nat.{ℕ, zero, suc, ◌+◌, ◌*◌, ◌≤◌, ◌<◌}
use native.Mathlib.Omega.{arith}
use native.Mathlib.Numerals.{add-one}
use borrow.Author.Tests.{lt-ltb, le-ltb}
use lib.Dec.{eqb, ltb}
use lib.ListN.{length, take, drop, get_or}
use Rattle.std.proofs.Common.{Some, None}
use Rattle.text.specs.Number.{number, max8}
use Rattle.text.specs.Bytes.{index_of}
use Rattle.console.specs.Address.{octet, octets}

-- an octet, by its first byte
module _ (s : List ℕ) {first : ℕ} (is : first ≡ get_or s 0 0) where
  pub octet-not : (eqb first 43 || (eqb first 48 && ltb 1 (length s))) ≡ true → octet s ≡ None
  unfolding octet
  octet-not e = rw (← is, e) refl

  pub octet-number : (eqb first 43 || (eqb first 48 && ltb 1 (length s))) ≡ false → octet s ≡ number max8 s
  unfolding octet
  octet-number e = rw (← is, e) refl

-- the octets so far are below this, by how many dots are passed
abbrev pub bound : ℕ → ℕ
bound zero = 1
bound (suc zero) = 256
bound (suc (suc zero)) = 65536
bound (suc (suc (suc k))) = 16777216

pub bound-next : (k n d : ℕ) → k < 3 → d < 256 → n < bound k → n * 256 + d < bound (k + 1)
bound-next zero n d h e f = omega arith
bound-next (suc zero) n d h e f = omega arith
bound-next (suc (suc zero)) n d h e f = omega arith
bound-next (suc (suc (suc k))) n d h e f = absurd (omega arith)

-- octets that end in a dot, s from there on, its first dot at i
module _ (n : ℕ) (s : List ℕ) {i : ℕ} (here : i ≡ index_of 46 s) where
  pub no_dot : (left : ℕ) → 0 < left → length s ≤ i → octets left n s ≡ None
  unfolding octets
  no_dot zero g h = absurd (omega arith)
  no_dot (suc k) g h = rw (← here, le-ltb i (length s) h) refl

  pub no_octet : (left : ℕ) → 0 < left → i < length s → None ≡ octet (take i s) → octets left n s ≡ None
  unfolding octets
  no_octet zero g h e = absurd (omega arith)
  no_octet (suc k) g h e = rw (← here, lt-ltb i (length s) h, ← e) refl

  pub an_octet : (left rest : ℕ) {d : ℕ} → left ≡ suc rest → i < length s → Some d ≡ octet (take i s) → octets left n s ≡ octets rest (n * 256 + d) (drop (i + 1) s)
  unfolding octets
  an_octet left rest {d} g h e = rw (g, ← here, lt-ltb i (length s) h, ← e, add-one i) refl

-- and the last one
module _ (n : ℕ) (s : List ℕ) where
  pub no_last : (left : ℕ) → left ≡ 0 → None ≡ octet s → octets left n s ≡ None
  unfolding octets
  no_last left g e = rw (g, ← e) refl

  pub last-octet : (left : ℕ) {d : ℕ} → left ≡ 0 → Some d ≡ octet s → octets left n s ≡ Some (n * 256 + d)
  unfolding octets
  last-octet left g e = rw (g, ← e) refl
