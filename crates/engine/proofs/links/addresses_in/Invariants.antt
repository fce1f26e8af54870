-- The addresses so far are the low bits of those of the row.
use mathlib.Core.Path.{◌≡◌}
use mathlib.Core.List.{map}
use lib.ListN.{take}
use Rattle.engine.specs.Arrays.{low32}
use Rattle.engine.proofs.links.addresses_in.Given as goal

abbrev pub invariant-loop-address : goal.invariant-loop-address
invariant-loop-address l = l.addresses.items ≡ map low32 (take l.address-index l.address-items)
