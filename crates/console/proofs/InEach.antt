-- Laws of what is done for each byte of a text: a loop's turn adds what it does for one byte more.
use mathlib.Core.Path.{◌≡◌, sym, ◌∙◌, ap}
use mathlib.Core.List.{List, [], ◌∷◌, ◌++◌, append_assoc, append-nil}
use Prim.Native.Nat.{ℕ, ◌+◌, ◌≤◌, ◌<◌}
use native.Mathlib.Numerals.{add-one}
use lib.ListN.{length, take, get_or}
use lib.Seq.{take-suc, take_all}
use Rattle.console.specs.Each.{each}
use Rattle.console.specs.Buffer.{Appends}
use Rattle.console.proofs.Appending as appending

each_snoc : (f : ℕ → List ℕ) (s : List ℕ) (x : ℕ) → each f (s ++ (x ∷ [])) ≡ each f s ++ f x
unfolding each
each_snoc f [] x = append-nil (f x)
each_snoc f (y ∷ s) x = ap (λ (l : List ℕ). f y ++ l) (each_snoc f s x) ∙ sym (append_assoc (f y) (each f s) (f x))

module _ (f : ℕ → List ℕ) (s : List ℕ) {b : List ℕ} {len : ℕ} where
  -- before the first turn, one turn, and after the last
  pub each_start : Appends (each f (take 0 s)) b len b len
  unfolding each
  each_start = appending.nothing b len

  pub each_turn : (i : ℕ) {b' b'' : List ℕ} {r r' : ℕ} → i < length s → Appends (each f (take i s)) b len b' r → Appends (f (get_or s i 0)) b' r b'' r'
      → Appends (each f (take (i + 1) s)) b len b'' r'
  each_turn i h p q =
      appending.text (appending.◌⨟◌ p q)
      (sym (each_snoc f (take i s) (get_or s i 0)) ∙ ap (each f) (sym (take-suc s i 0 h)) ∙ ap (λ (k : ℕ). each f (take k s)) (sym (add-one i)))

  pub each-end : (i : ℕ) {b' : List ℕ} {r : ℕ} → length s ≤ i → Appends (each f (take i s)) b len b' r → Appends (each f s) b len b' r
  each-end i h p = appending.text p (ap (each f) (take_all i s h))
