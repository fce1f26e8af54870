-- `utf8::ascii_end`: the check goes on at k as it does at i.
use mathlib.Core.Path.{◌≡◌}
use lib.ListN.{drop}
use Rattle.text.specs.Utf8.{utf8}
use Rattle.text.proofs.utf8.ascii_end.Given as goal

abbrev pub invariant-loop-k : goal.invariant-loop-k
invariant-loop-k l = utf8 (drop l.i l.s) ≡ utf8 (drop l.k l.s)
