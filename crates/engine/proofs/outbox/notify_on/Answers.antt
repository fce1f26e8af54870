-- `notify_on` meets its contract: the location is rewritten, the message built behind the head, and framed.
use mathlib.Core.Path.{refl}
use Rattle.message.specs.Build.{notify_text}
use Rattle.engine.specs.Records.{NotifyFrom}
use Rattle.engine.proofs.OneRecord.{frame-room, sent, located}
use Rattle.engine.proofs.Sending.{sent as all}
use Rattle.engine.proofs.outbox.notify_on.Goals as goal

pub frame-requires : goal.frame-requires
frame-requires c =
    let a = c.args in
    frame-room (NotifyFrom a.source a.service.now a.name.now a.location.text.now) 0 a.outbox.now _ c.requires
    (located (notify_text a.service.now a.name.now) c.rewrite_host-url_len.ensures.front c.build_notify.ensures) refl c.unwrap_or-len.ensures

pub returns : goal.returns
returns c =
    let a = c.args in
    all (sent (NotifyFrom a.source a.service.now a.name.now a.location.text.now) 0 a.outbox.now _ c.requires
    (located (notify_text a.service.now a.name.now) c.rewrite_host-url_len.ensures.front c.build_notify.ensures) refl c.unwrap_or-len.ensures c.frame.ensures)
