-- `frame` meets its contract: the head goes before the message that stands in the record, and zeros behind it.
use Rattle.std.proofs.Common.{refl}
use Rattle.engine.proofs.OneRecord.{framing}
use Rattle.engine.proofs.outbox.frame.Goals as goal

pub returns : goal.returns
returns c =
    let s = c.args in
    let pre = c.requires in
    framing 0 s.len s.source s.to pre.0 pre.1 refl c.put_head-at.ensures.put c.clear.ensures
