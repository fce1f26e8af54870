-- `search_on` meets its contract: the message is built behind the head, and framed.
use mathlib.Core.Path.{refl}
use Rattle.engine.specs.Records.{SearchFrom}
use Rattle.engine.proofs.OneRecord.{frame-room, sent}
use Rattle.engine.proofs.Sending.{sent as all}
use Rattle.engine.proofs.outbox.search_on.Goals as goal

pub frame-requires : goal.frame-requires
frame-requires c =
    frame-room (SearchFrom c.args.source c.args.service.now) 0 c.args.outbox.now _ c.requires c.build_search.ensures refl c.unwrap_or-len.ensures

pub returns : goal.returns
returns c =
    all (sent (SearchFrom c.args.source c.args.service.now) 0 c.args.outbox.now _ c.requires
    c.build_search.ensures refl c.unwrap_or-len.ensures c.frame.ensures)
