-- The replies so far that are due.
use mathlib.Core.List.{List}
use Prim.Native.Nat.{ℕ}
use Rattle.engine.specs.Arrays.{names_in}
use Rattle.engine.proofs.TablePasses.{Due}
use Rattle.engine.proofs.pending.due_in.Given as goal

abbrev pub invariant-loop-i : goal.invariant-loop-i
invariant-loop-i l =
    ((texts : List ℕ) → Due l.time (names_in l.head l.numbers texts) l.i l.alone l.group)
