-- An array of slots whose first entries are held: an entry put in before the others, and one taken out of them.
use Rattle.std.specs.Prelude.{ℕ, suc, List, ◌∷◌, ◌++◌, take, drop}

abbrev pub insert_at : {A : Type 0} → ℕ → A → List A → List A
insert_at i a l = take i l ++ a ∷ drop i l

abbrev pub remove_at : {A : Type 0} → ℕ → List A → List A
remove_at i l = take i l ++ drop (suc i) l
