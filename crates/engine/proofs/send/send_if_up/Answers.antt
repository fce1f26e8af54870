-- There is room for what the addresses of a link get.
use mathlib.Core.Path.{sym}
use Rattle.engine.specs.Records.{flat, all_from}
use Rattle.engine.specs.Lent.{names_lent, searches_lent}
use Rattle.engine.proofs.Sending.{sent-as, sent-nothing}
use Rattle.engine.proofs.Answering.{not_chosen}
use Rattle.engine.proofs.send.send_if_up.Goals as goal

pub returns : goal.returns
returns c =
    sent-as (sent-nothing c.args.outbox.now) (sym (not_chosen (flat (all_from (searches_lent c.args.tables.now) (names_lent c.args.tables.now)) c.args.addresses.now) c.if-turns.false))
