-- The links before the one looked at are all below the index.
use mathlib.Core.Path.{◌≡◌}
use lib.ListN.{drop}
use Rattle.engine.specs.Held.{by_index}
use Rattle.engine.specs.Arrays.{link_count, links_in}
use Rattle.engine.proofs.Tables as tables
use Rattle.engine.proofs.links.spot_of.Given as goal

abbrev pub invariant-loop-i : goal.invariant-loop-i
invariant-loop-i l = (l.n ≡ link_count l.head) × tables.Looking by_index l.index (links_in l.head l.links) l.i (drop l.i (links_in l.head l.links))
