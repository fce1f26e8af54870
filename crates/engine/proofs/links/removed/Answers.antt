-- A known link is taken out of its row.
use Rattle.engine.proofs.LinkRows as links
use native.Mathlib.Omega.{arith}
use Rattle.engine.proofs.links.removed.Goals as goal

pub taken_out-requires : goal.taken_out-requires
taken_out-requires c = (omega (arith, links.spot_inside c.args.head.now c.args.links.now c.in-Ok.ensures), omega arith)

pub overflow_sub-result : goal.overflow_sub-result
overflow_sub-result c = omega (arith, links.spot_inside c.args.head.now c.args.links.now c.in-Ok.ensures)

pub returns-in_default : goal.returns-in_default
returns-in_default c = links.left_unknown c.args.head.now c.args.links.now c.count_of-n.ensures c.in_default.ensures

pub returns : goal.returns
returns c =
    let s = c.args in
    links.left_known s.head.now s.links.now c.count_of-n.ensures c.in-Ok.ensures c.taken_out.ensures
