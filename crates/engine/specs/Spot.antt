-- Where the entry of a key stands in an ordered table, or would stand: its rank, and whether the key is known.
use Rattle.std.specs.Prelude.{ℕ, ◌≡◌, List, Result, Ok, Err}
use Rattle.std.specs.Result.{is_ok}
use Rattle.engine.specs.Table.{Key, rank, known}

-- `Ok` of where it stands, or `Err` of where it would stand
abbrev pub place : Result ℕ ℕ → ℕ
place (Ok i) = i
place (Err i) = i

pub record Spotted {K A : Type 0} (k : Key K A) (x : K) (l : List A) (r : Result ℕ ℕ) : Type 0 where
  pub at : place r ≡ rank k x l
  pub known : is_ok r ≡ known k x l
