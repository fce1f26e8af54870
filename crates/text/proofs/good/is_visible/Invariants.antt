-- `good::is_visible`: what the blocks so far leave decides.
use mathlib.Core.Path.{◌≡◌}
use Prim.Native.Nat.{◌*◌}
use lib.ListN.{drop}
use Rattle.text.specs.Range.{every}
use Rattle.text.specs.Good.{visible}
use Rattle.text.proofs.good.is_visible.Given as goal

abbrev pub invariant-loop-block : goal.invariant-loop-block
invariant-loop-block l = every visible l.s ≡ every visible (drop (16 * l.block-index) l.s)
