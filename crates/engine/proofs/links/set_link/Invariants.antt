-- The first i addresses are written.
use Rattle.engine.proofs.LinkRows.{Written}
use Rattle.engine.proofs.links.set_link.Given as goal

abbrev pub invariant-loop-i : goal.invariant-loop-i
invariant-loop-i l = Written l.initial.row l.addresses l.i l.row
