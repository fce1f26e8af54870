-- The part that is lent is all that follows `start`.
use native.Mathlib.Omega.{arith}
use Rattle.engine.proofs.Rewriting.{host-from, host-inside}
use Rattle.engine.proofs.location.host_end.Goals as goal

pub overflow_add-result : goal.overflow_add-result
overflow_add-result c = omega (arith, host-inside c.args.location.now c.args.start c.host_length-n.result c.requires c.host_length-n.ensures)

pub returns : goal.returns
returns c =
    let l = c.args.location.now in
    let start = c.args.start in
    record { value = host-from l start c.host_length-n.result c.host_length-n.ensures; lower_bound = (omega arith, host-inside l start c.host_length-n.result c.requires c.host_length-n.ensures) }
