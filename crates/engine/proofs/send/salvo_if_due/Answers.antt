-- The refresh records, or none.
use mathlib.Core.Path.{sym}
use Rattle.engine.specs.Records.{refresh_on}
use Rattle.engine.specs.Lent.{names_lent, searches_lent}
use Rattle.engine.proofs.Sending.{sent-nothing, sent-as}
use Rattle.engine.proofs.Answering.{not_chosen}
use Rattle.engine.proofs.send.salvo_if_due.Goals as goal

pub returns : goal.returns
returns c = sent-as (sent-nothing c.args.outbox.now) (sym (not_chosen (refresh_on c.args.up.now (searches_lent c.args.tables.now) (names_lent c.args.tables.now)) c.if-due.false))
