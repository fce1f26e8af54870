-- The addresses that are held, and no more than the row has.
use native.Mathlib.Omega.{arith}
use Rattle.engine.proofs.LinkRows as links
use Rattle.engine.proofs.links.addresses_in.Goals as goal

pub returns : goal.returns
returns c =
    let h = c.loop-address in
    links.addresses-read c.args.row.now h.addresses.items c.min-count.result _ h.address-index c.min-count.ensures (omega arith) c.loop-address-test.false h.invariant
