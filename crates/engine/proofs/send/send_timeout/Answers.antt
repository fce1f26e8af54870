-- The refresh records, and the replies behind them.
use Rattle.std.proofs.Common.{refl}
use Rattle.engine.proofs.Sending.{both}
use Rattle.engine.proofs.send.send_timeout.Goals as goal

pub returns : goal.returns
returns c = both c.requires c.salvo_if_due-k.ensures c.replies_due.ensures refl
