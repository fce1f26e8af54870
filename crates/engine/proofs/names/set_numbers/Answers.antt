-- Five stores in a row, read back.
use Rattle.engine.proofs.NameRows as names
use Rattle.engine.proofs.names.set_numbers.Goals as goal

pub returns : goal.returns
returns c = names.reply-written _ _ _ _ _ _ c.requires
