-- `good::all_visible`: what is found so far, and the bytes from the index on.
use mathlib.Core.Path.{◌≡◌}
use mathlib.Core.Bool.{◌&&◌}
use lib.ListN.{drop}
use Rattle.text.specs.Range.{every}
use Rattle.text.specs.Good.{visible}
use Rattle.text.proofs.good.all_visible.Given as goal

abbrev pub invariant-loop-b : goal.invariant-loop-b
invariant-loop-b l = (l.all && every visible (drop l.b-index l.s)) ≡ every visible l.s
