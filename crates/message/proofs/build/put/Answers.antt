-- `build::put` meets its contract: the text fits, so that the text crate's writer writes it.
use Rattle.message.proofs.build.put.Goals as goal

pub returns : goal.returns
returns c = c.put.ensures.fitting c.requires
