-- `record_at` meets its contract: there is no such record, or it is there whole.
use mathlib.Core.Path.{sym}
use Rattle.dialogue.proofs.Outbox.{no_record, whole-record}
use Rattle.dialogue.proofs.record.record_at.Goals as goal

pub returns-then-outbox-k : goal.returns-then-outbox-k
returns-then-outbox-k c = let a = c.args in sym (no_record a.k a.outbox.now c.if-outbox-k.true)

pub returns : goal.returns
returns c = let a = c.args in sym (whole-record a.k a.outbox.now c.if-outbox-k.false)
