-- `number::digits_up_to`: the digits so far give n, at most max, and those from the index on decide.
use mathlib.Core.Path.{◌≡◌}
use Prim.Native.Nat.{◌≤◌}
use lib.ListN.{drop}
use Rattle.text.specs.Number.{more, unsigned}
use Rattle.text.proofs.number.digits_up_to.Given as goal

abbrev pub invariant-loop-d : goal.invariant-loop-d
invariant-loop-d l = (l.n ≤ l.max) × (unsigned l.max l.s ≡ more l.max l.n (drop l.d-index l.s))
