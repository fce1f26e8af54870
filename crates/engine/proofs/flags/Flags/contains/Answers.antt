-- The code is the definition.
use mathlib.Core.Path.{refl}
use Rattle.engine.specs.Flags.{contains}
use Rattle.engine.proofs.flags.Flags.contains.Goals as goal

pub returns : goal.returns
unfolding contains
returns c = refl
