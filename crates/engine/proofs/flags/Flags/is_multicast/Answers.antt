-- What `contains` says of the one flag.
use Rattle.engine.specs.Flags.{is_multicast}
use Rattle.engine.proofs.flags.Flags.is_multicast.Goals as goal

pub returns : goal.returns
unfolding is_multicast
returns c = c.contains.ensures
