-- Demand 3 of a set of functions in one place: the code of each meets its contract, every log of what the contracts give is as claimed, and every list of calls has such a log.
use Prim.Native.Nat.{ℕ}
use mathlib.Core.List.{List}
use Rattle.engine.specs.Calls.{Call}
use Rattle.engine.specs.Arrays.{Engine}
use Rattle.engine.specs.declared.answer.Answer.{Answer}
use Rattle.engine.proofs.Contracts.{Contracts, News, Gives}
use Rattle.claims.specs.Claim.{Log, Claim}
use Rattle.claims.specs.EveryList.{Word, Lent, Logged}

pub record Certificate (Meet : Type 2) (f : Contracts) : Type 2 where
  pub meet : Meet
  pub claim : {seed time : ℕ} {cs : List Call} {as' : List Answer} {e : Engine} → (l : Log (News f) (Gives f) seed time cs as' e) → Claim l
  pub logs : (seed time : ℕ) → Word seed → (lent : List (Call × List ℕ)) → Lent lent → Logged (News f) (Gives f) seed time lent
