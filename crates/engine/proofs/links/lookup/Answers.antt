-- The link is read where it stands; one that is not held stands nowhere.
use native.Mathlib.Omega.{arith}
use Rattle.engine.proofs.LinkRows as links
use Rattle.engine.proofs.links.lookup.Goals as goal

pub link_at-requires : goal.link_at-requires
link_at-requires c = omega (arith, links.spot_inside c.args.head.now c.args.links.now c.in-Ok.ensures)

pub returns-in-Ok : goal.returns-in-Ok
returns-in-Ok c = links.there c.args.head.now c.args.links.now c.in-Ok.ensures c.link_at.ensures
