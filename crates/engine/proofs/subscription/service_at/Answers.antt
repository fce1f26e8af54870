-- The type begins behind the byte of its length, and is cut to the bytes that a row has for it.
use Rattle.engine.proofs.SearchRows.{type-is}
use Rattle.engine.proofs.subscription.service_at.Goals as goal

pub returns : goal.returns
returns c =
    let s = c.args in
    type-is s.searches.now s.i c.min.result c.min.ensures
