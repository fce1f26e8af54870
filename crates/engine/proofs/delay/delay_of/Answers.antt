use Rattle.std.proofs.Common.{arith}
use Rattle.std.proofs.lemmas.Grind.{common_steps}
use Rattle.engine.specs.Delay.{delay}
use Rattle.engine.proofs.delay.delay_of.Goals as goal

pub returns : goal.returns
unfolding delay
returns c = grind (arith, common_steps)
