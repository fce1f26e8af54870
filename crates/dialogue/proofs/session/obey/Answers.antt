-- `obey` meets its contract: nothing was read, or a line before an accepted `new`, or after it.
use Rattle.std.proofs.Common.{refl, length}
use Rattle.dialogue.proofs.Calling.{unheard-nothing}
use Rattle.dialogue.proofs.session.obey.Goals as goal

pub returns-in_default : goal.returns-in_default
returns-in_default c =
    rw c.in_default.is (unheard-nothing c.args.line.now (length c.args.outbox.now) c.args.begun
    (record { engine = refl; still = c.unheard.ensures.0; unheard = c.unheard.ensures.1; kept = refl }))
