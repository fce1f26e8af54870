-- The names so far are served and counted, and those that are left are as they came.
use mathlib.Core.List.{List}
use Prim.Native.Nat.{ℕ}
use Rattle.engine.specs.Replies.{served, alone_at, group_at}
use Rattle.engine.specs.Arrays.{entries}
use Rattle.engine.specs.Changes.{blank}
use Rattle.engine.proofs.TablePasses.{Passing}
use Rattle.engine.proofs.pending.serve_all.Given as goal

abbrev pub invariant-loop-i : goal.invariant-loop-i
invariant-loop-i l =
    ((texts : List ℕ) → Passing (served l.time) (alone_at l.time) (group_at l.time) blank (entries l.n l.initial.numbers texts) l.i (entries l.n l.numbers texts) l.alone l.group)
