-- The addresses so far and those of the links that are left make all of them.
use lib.ListN.{drop}
use Rattle.engine.specs.Arrays.{links_in}
use Rattle.engine.proofs.UpAddresses as up
use Rattle.engine.proofs.source.of_up_links.Given as goal

abbrev pub invariant-loop-i : goal.invariant-loop-i
invariant-loop-i l = up.Gathering (links_in l.head l.links) l.i (drop l.i (links_in l.head l.links)) l.addresses.items
