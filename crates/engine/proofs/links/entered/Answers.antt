-- A known link is put over its row; a new one is put in at its rank. Where there is no room the promise asks for nothing.
use Rattle.engine.proofs.LinkRows as links
use native.Mathlib.Omega.{arith}
use Rattle.engine.proofs.links.entered.Goals as goal

pub put_over-requires : goal.put_over-requires
put_over-requires c = (omega (arith, links.spot_inside c.args.head.now c.args.links.now c.in-Ok.ensures), omega arith)

pub put_in-requires : goal.put_in-requires
put_in-requires c = (omega (arith, links.spot_within c.args.head.now c.args.links.now c.in-Err.ensures), omega arith)

pub returns-in-Ok : goal.returns-in-Ok
returns-in-Ok c =
    let s = c.args in
    λ room. links.entered-over s.head.now s.links.now c.count_of-n.ensures s.link c.in-Ok.ensures c.put_over.ensures

pub returns-then-n-ge-LINKS : goal.returns-then-n-ge-LINKS
returns-then-n-ge-LINKS c =
    let s = c.args in
    λ room. absurd (links.no_room s.head.now s.links.now c.count_of-n.ensures s.link (omega arith) c.in-Err.ensures room)

pub returns-else-n-ge-LINKS : goal.returns-else-n-ge-LINKS
returns-else-n-ge-LINKS c =
    let s = c.args in
    λ room. links.entered-new s.head.now s.links.now c.count_of-n.ensures s.link (omega arith) c.in-Err.ensures c.put_in.ensures
