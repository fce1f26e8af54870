-- The parts in a row: what stands before the host, the address, what stands behind the host.
use native.Mathlib.Omega.{arith}
use mathlib.Core.Path.{sym}
use Rattle.text.specs.Bytes.{bytes}
use Rattle.text.proofs.Writing.{behind}
use Rattle.engine.specs.Location.{scheme_end}
use Rattle.engine.proofs.Rewriting.{scheme_room, unchanged, changed, rewrites}
use Rattle.engine.proofs.location.rewrite_host.Goals as goal

pub returns-in_default : goal.returns-in_default
unfolding scheme_end bytes
returns-in_default c = rewrites c.requires c.put.ensures (sym (unchanged c.args.location.now _ (omega (arith, c.in_default.ensures.none))))

pub host_end-end-requires : goal.host_end-end-requires
unfolding scheme_end bytes
host_end-end-requires c = let i = c.in-Some.ensures.some in scheme_room _ _ i.0 i.1

pub returns : goal.returns
unfolding scheme_end bytes
returns c =
    let i = c.in-Some.ensures.some in
    rewrites c.requires
    (behind (omega arith) (behind (omega arith) c.put-a.ensures c.put_dotted-b.ensures.put) c.put-2.ensures)
    (changed _ _ i.0 _ _ i.1 c.host_end-end.ensures.value)
