-- Two lists read side by side in rows: each entry has v elements of the one and w of the other. Total: a list that ends early has short rows.
use Rattle.std.specs.Prelude.{ℕ, zero, suc, ◌*◌, List, [], ◌∷◌, take, drop}

-- row i of a list of rows of w elements
abbrev pub row : {A : Type 0} → ℕ → ℕ → List A → List A
row w i l = take w (drop (w * i) l)

module _ {A B C : Type 0} (v w : ℕ) (entry : List A → List B → C) where
  -- the first n entries
  unfoldable pub rows : ℕ → List A → List B → List C
  rows zero ns ts = []
  rows (suc n) ns ts = entry (take v ns) (take w ts) ∷ rows n (drop v ns) (drop w ts)

-- the same of one list
abbrev pub lines : {A C : Type 0} → ℕ → (List A → C) → ℕ → List A → List C
lines w entry n l = rows w w (λ r q. entry r) n l l
