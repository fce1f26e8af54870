-- The mask is that of the subscriptions from `i` on.
use mathlib.Core.Path.{◌≡◌}
use Prim.Native.Nat.{◌≤◌}
use lib.ListN.{drop}
use Rattle.engine.specs.Engine.{mask_of}
use Rattle.engine.specs.Arrays.{search_count, searches_in}
use Rattle.engine.proofs.subscription.mask_of.Given as goal

abbrev pub invariant-loop-i : goal.invariant-loop-i
invariant-loop-i l = (l.i ≤ search_count l.head) × (l.mask ≡ mask_of (drop l.i (searches_in l.head l.searches)) l.service)
