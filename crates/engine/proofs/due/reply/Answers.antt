-- No reply, no record.
use Rattle.std.proofs.Common.{sym, ap}
use Rattle.engine.specs.Records.{reply_records}
use Rattle.engine.specs.Row.{entry}
use Rattle.engine.proofs.Sending.{sent-nothing, sent-as}
use Rattle.engine.proofs.due.reply.Goals as goal

pub returns-in-None : goal.returns-in-None
returns-in-None c = sent-as (sent-nothing c.args.outbox.now) (ap (reply_records c.args.up.now (entry c.args.a.now)) (sym c.in-None.is))
