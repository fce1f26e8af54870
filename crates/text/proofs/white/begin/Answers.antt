-- `white::begin`: the test is put on what the lead byte fixes.
use Rattle.text.specs.White.{begins}
use Rattle.text.proofs.white.begin.Goals as goal

pub returns : goal.returns
unfolding begins
returns c = cc
