-- The low bits of the seed's place.
use Rattle.engine.specs.Arrays.{seed_in}
use Rattle.engine.proofs.head.seed_in.Goals as goal

pub returns : goal.returns
unfolding seed_in
returns c = c.low_32.ensures
