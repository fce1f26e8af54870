-- The names so far are asked and counted, and those that are left are as they came.
use Rattle.engine.specs.Replies.{asked, matched_by, joined_by}
use Rattle.engine.specs.Passes.{asked_of}
use Rattle.engine.specs.Arrays.{entries}
use Rattle.engine.specs.Changes.{blank}
use Rattle.engine.proofs.TablePasses.{Passing}
use Rattle.engine.proofs.pending.ask_all.Given as goal

abbrev pub invariant-loop-i : goal.invariant-loop-i
invariant-loop-i l =
    Passing (asked l.search.due (asked_of l.search)) (matched_by (asked_of l.search)) (joined_by (asked_of l.search)) blank (entries l.n l.initial.numbers l.initial.texts) l.i (entries l.n l.numbers l.texts) l.matched l.joined
