-- The numbers of the row, and behind them the addresses one by one.
use mathlib.Core.Path.{refl}
use native.Mathlib.Omega.{arith}
use borrow.Author.Rules.{rules}
use Rattle.engine.proofs.LinkRows as links
use Rattle.engine.proofs.links.set_link.Goals as goal

pub loop-i-preserved : goal.loop-i-preserved
loop-i-preserved c =
    links.written-turn _ c.as_slice-addresses.result.now (omega (arith, c.as_slice-addresses.ensures.fits)) c.loop-i-test.true refl c.loop-i.invariant

pub returns : goal.returns
returns c =
    let k = c.args.link.now in
    let held = c.as_slice-addresses in
    links.link_written c.loop-i.row held.result.now k c.loop-i.i held.ensures.value (omega (arith, held.ensures.fits)) (search rules)
    (links.first-three c.args.row.now _ _ _ c.requires) (omega arith) c.loop-i.invariant
