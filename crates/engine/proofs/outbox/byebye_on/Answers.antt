-- `byebye_on` meets its contract: the message is built behind the head, and framed.
use mathlib.Core.Path.{refl}
use Rattle.engine.specs.Records.{ByeByeFrom}
use Rattle.engine.proofs.OneRecord.{frame-room, sent}
use Rattle.engine.proofs.Sending.{sent as all}
use Rattle.engine.proofs.outbox.byebye_on.Goals as goal

pub frame-requires : goal.frame-requires
frame-requires c =
    let a = c.args in
    frame-room (ByeByeFrom a.source a.service.now a.name.now) 0 a.outbox.now _ c.requires c.build_byebye.ensures refl c.unwrap_or-len.ensures

pub returns : goal.returns
returns c =
    let a = c.args in
    all (sent (ByeByeFrom a.source a.service.now a.name.now) 0 a.outbox.now _ c.requires c.build_byebye.ensures refl c.unwrap_or-len.ensures c.frame.ensures)
