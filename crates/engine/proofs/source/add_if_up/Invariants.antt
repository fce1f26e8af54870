-- The addresses so far stand behind those that came.
use mathlib.Core.Path.{◌≡◌}
use mathlib.Core.List.{◌++◌}
use lib.ListN.{take}
use Rattle.engine.proofs.source.add_if_up.Given as goal

abbrev pub invariant-loop-address : goal.invariant-loop-address
invariant-loop-address l = l.addresses.items ≡ l.initial.addresses.items ++ take l.address-index l.address-items
