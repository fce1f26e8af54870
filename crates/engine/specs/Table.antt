-- A table in ascending order of a key, as a list: advertisements in byte order of name, links by index (document 01, 'Outbox').
-- All its rules look no further than the first entry that is not below the key.
use Rattle.std.specs.Prelude.{ℕ, suc, Bool, false, cond, List, [], ◌∷◌}

-- how entries are told apart and ordered
pub record Key (K A : Type 0) : Type 0 where
  pub of : A → K
  pub below : K → K → Bool
  pub same : K → K → Bool

module _ {K A : Type 0} (k : Key K A) where
  -- how many entries at the front are below x
  unfoldable pub rank : K → List A → ℕ
  rank x [] = 0
  rank x (a ∷ l) = cond (k.below (k.of a) x) (suc (rank x l)) 0

  -- whether there is an entry of this key
  unfoldable pub known : K → List A → Bool
  known x [] = false
  known x (a ∷ l) = cond (k.below (k.of a) x) (known x l) (k.same (k.of a) x)

  -- that entry, as a list of one or none
  unfoldable pub entry_of : K → List A → List A
  entry_of x [] = []
  entry_of x (a ∷ l) = cond (k.below (k.of a) x) (entry_of x l) (cond (k.same (k.of a) x) (a ∷ []) [])

  -- the table with an entry, which takes the place of the one of its key
  unfoldable pub enter : A → List A → List A
  enter b [] = b ∷ []
  enter b (a ∷ l) = cond (k.below (k.of a) (k.of b)) (a ∷ enter b l) (cond (k.same (k.of a) (k.of b)) (b ∷ l) (b ∷ a ∷ l))

  -- the table without the entry of this key
  unfoldable pub leave : K → List A → List A
  leave x [] = []
  leave x (a ∷ l) = cond (k.below (k.of a) x) (a ∷ leave x l) (cond (k.same (k.of a) x) l (a ∷ l))
