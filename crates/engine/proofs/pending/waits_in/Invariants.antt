-- The waits and the earliest instant so far.
use mathlib.Core.List.{List}
use Prim.Native.Nat.{ℕ}
use Rattle.engine.specs.Arrays.{names_in}
use Rattle.engine.proofs.TablePasses.{Waiting}
use Rattle.engine.proofs.pending.waits_in.Given as goal

abbrev pub invariant-loop-i : goal.invariant-loop-i
invariant-loop-i l =
    ((texts : List ℕ) → Waiting l.time (names_in l.head l.numbers texts) l.i l.waiting l.poll)
