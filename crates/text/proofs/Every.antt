-- Laws of a test of every byte: what is found so far, and the bytes from place i on, one by one or by blocks.
use mathlib.Core.Path.{◌≡◌, refl, sym, ◌∙◌, ap}
use mathlib.Core.Bool.{Bool, true, false, ◌&&◌, and_assoc, and-true}
use mathlib.Core.List.{List, [], ◌∷◌, ◌++◌}
use Prim.Native.Nat.{ℕ, zero, suc, ◌+◌, ◌-◌, ◌*◌, ◌/◌, ◌≤◌, ◌<◌}
use native.Mathlib.Numerals.{add-one}
use native.Mathlib.Omega.{arith}
use lib.ListN.{length, take, drop, get_or, drop_of_length-le, take-append-drop}
use lib.Seq.{drop-cons, drop-drop}
use Rattle.std.specs.Simd.{first_chunks}
use Rattle.text.specs.Range.{every}

module _ (f : ℕ → Bool) (s : List ℕ) (i : ℕ) where
  pub every-turn : (t : Bool) → i < length s → (t && every f (drop i s)) ≡ (t && f (get_or s i 0) && every f (drop (i + 1) s))
  unfolding every
  every-turn t h = rw (add-one, drop-cons s i 0) (sym (and_assoc t (f (get_or s i 0)) (every f (drop (suc i) s))))

  pub every-end : (t : Bool) → length s ≤ i → (t && every f (drop i s)) ≡ t
  unfolding every
  every-end t h = rw (drop_of_length-le s h) (and-true t)

-- a test of two parts of a text is one of the whole
every_append : (f : ℕ → Bool) (s t : List ℕ) → every f (s ++ t) ≡ (every f s && every f t)
unfolding every
every_append f [] t = refl
every_append f (a ∷ s) t = ap (λ (x : Bool). f a && x) (every_append f s t) ∙ sym (and_assoc (f a) (every f s) (every f t))

-- a test that answers the same from the start on and from a later place on does so from each place between
pub between : (a b c p q : Bool) → a ≡ (p && b) → b ≡ (q && c) → a ≡ c → a ≡ b
between a b c true q e g h = e
between a b c false true e g h = h ∙ sym g
between a b c false false e g h = e ∙ sym g

module _ (f : ℕ → Bool) where
  every-split : (s : List ℕ) (k : ℕ) → every f s ≡ (every f (take k s) && every f (drop k s))
  every-split s k = ap (every f) (sym (take-append-drop k s)) ∙ every_append f (take k s) (drop k s)

  -- a block of k bytes at the front of what is left
  module _ (s left : List ℕ) (k : ℕ) {block : List ℕ} (b : block ≡ take k left) (p : every f s ≡ every f left) where
    pub block_passes : {behind : List ℕ} → behind ≡ drop k left → every f block ≡ true → every f s ≡ every f behind
    block_passes {behind} d e =
        p ∙ every-split left k ∙ ap (λ (t : Bool). t && every f (drop k left)) (ap (every f) (sym b) ∙ e) ∙ ap (every f) (sym d)

    pub block_fails : every f block ≡ false → false ≡ every f s
    block_fails e = sym (p ∙ every-split left k ∙ ap (λ (t : Bool). t && every f (drop k left)) (ap (every f) (sym b) ∙ e))

  -- the last block of k bytes, where fewer are left
  pub block_last : (s left : List ℕ) (k : ℕ) {last : List ℕ} → k ≤ length s → length left < k → last ≡ drop (length s - k) s
      → left ≡ drop (length s - length left) s → every f s ≡ every f left → every f last ≡ every f s
  block_last s left k {last} h g e d p =
      let w : left ≡ drop (k - length left) last =
      d ∙ ap (λ (n : ℕ). drop n s) (omega arith) ∙ sym (drop-drop (k - length left) (length s - k) s) ∙ ap (drop (k - length left)) (sym e) in
      sym (between (every f s) (every f last) (every f left) (every f (take (length s - k) s)) (every f (take (k - length left) last))
      (every-split s (length s - k) ∙ ap (λ (l : List ℕ). every f (take (length s - k) s) && every f l) (sym e))
      (every-split last (k - length left) ∙ ap (λ (l : List ℕ). every f (take (k - length left) last) && every f l) (sym w)) p)

-- block i of those of 16 bytes, and what is left behind it
pub block_at : (s : List ℕ) (i : ℕ) {blocks : List (List ℕ)} → blocks ≡ first_chunks 16 (length s / 16) s → length blocks ≡ length s / 16 → i < length blocks → get_or blocks i [] ≡ take 16 (drop (16 * i) s)
block_at s i e n h = ap (λ (l : List (List ℕ)). get_or l i []) e ∙ go s (length s / 16) i (omega (arith, n, h))
  where
    go : (t : List ℕ) (n m : ℕ) → m < n → get_or (first_chunks 16 n t) m [] ≡ take 16 (drop (16 * m) t)
    go t zero m h = absurd (omega arith)
    go t (suc n) zero h = refl
    go t (suc n) (suc m) h = go (drop 16 t) n m (omega arith) ∙ ap (take 16) (drop-drop (16 * m) 16 t ∙ ap (λ (k : ℕ). drop k t) (omega arith))

pub behind_block : (s : List ℕ) (i : ℕ) → drop (16 * (i + 1)) s ≡ drop 16 (drop (16 * i) s)
behind_block s i = sym (drop-drop 16 (16 * i) s ∙ ap (λ (k : ℕ). drop k s) (omega arith))
