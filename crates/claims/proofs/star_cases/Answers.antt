-- The table, computed once by the engine's proofs.
use Rattle.engine.proofs.StarCases.{star_cases_lem}
use Rattle.claims.proofs.star_cases.Goals as goal

pub returns : goal.returns
returns c = star_cases_lem
