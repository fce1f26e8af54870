-- The table of the latest headers, with what the lines from `at` on hold over it, is what all the lines hold. The measure is what is left of the datagram.
use mathlib.Core.Path.{◌≡◌}
use Prim.Native.Nat.{◌-◌}
use lib.ListN.{length}
use Rattle.message.specs.Headers.{listed, headers_from}
use Rattle.message.proofs.Lookup.{ahead}
use Rattle.message.proofs.headers.headers_from.Given as goal

abbrev pub invariant-loop-at : goal.invariant-loop-at
invariant-loop-at l = ahead l.s l.at (listed l.latest) ≡ headers_from l.s l.from

abbrev pub decreases-loop-at : goal.decreases-loop-at
decreases-loop-at l = length l.s - l.at
