-- `obey_first` meets its contract: `new`, or any other line.
use Rattle.std.proofs.Common.{refl, length}
use Rattle.dialogue.specs.Asking.{asked}
use Rattle.dialogue.proofs.Calling.{unheard-first}
use Rattle.dialogue.proofs.session.obey_first.Goals as goal

pub returns-in_default : goal.returns-in_default
returns-in_default c =
    λ line outbox. unheard-first line (length outbox) c.args.command c.in_default.not-New
    (record { engine = refl; still = c.unheard.ensures.0; unheard = c.unheard.ensures.1; kept = refl })

pub returns : goal.returns
unfolding asked
returns c =
    λ line outbox.
    let b = c.begin.ensures in
    rw c.in-New.is (record { outcome = record { answer = b.answer; heard = b.heard; begins = b.begins; begun = b.begun; kept = refl } })
