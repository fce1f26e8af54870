-- The invariant is `Run` over the names.
use Rattle.engine.specs.Records.{notify_on}
use Rattle.engine.specs.Lent.{names_lent}
use Rattle.engine.proofs.Runs.{Run}
use Rattle.engine.proofs.salvo.names_on_all.Given as goal

abbrev pub invariant-loop-i : goal.invariant-loop-i
invariant-loop-i l =
    Run (notify_on l.up) (names_lent l.tables) l.i-end l.initial.outbox l.outbox l.k l.i
