-- There is room for what one address gets.
use mathlib.Core.Path.{sym}
use Rattle.engine.specs.Records.{all_from}
use Rattle.engine.specs.Lent.{names_lent, searches_lent}
use Rattle.engine.proofs.Sending.{sent-as, sent-nothing}
use Rattle.engine.proofs.Answering.{not_chosen}
use Rattle.engine.proofs.send.send_if_stored.Goals as goal

pub returns : goal.returns
returns c =
    sent-as (sent-nothing c.args.outbox.now) (sym (not_chosen (all_from (searches_lent c.args.tables.now) (names_lent c.args.tables.now) c.args.address) c.if-stored.false))
