-- `is_clean` meets its contract: there are more records than there is room for, or the rest of the outbox decides.
use Rattle.dialogue.proofs.Outbox.{clean-over, clean-rest}
use native.Mathlib.Omega.{arith}
use Rattle.dialogue.proofs.record.is_clean.Goals as goal

pub returns-then-outbox-n : goal.returns-then-outbox-n
returns-then-outbox-n c = let a = c.args in clean-over a.n a.outbox.now c.if-outbox-n.true

pub returns : goal.returns
returns c = let a = c.args in clean-rest a.n a.outbox.now (omega (arith, c.if-outbox-n.false)) c.is_all.ensures c.are_padded.ensures
