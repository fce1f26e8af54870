-- The invariant is `Run` over the subscriptions.
use Rattle.engine.specs.Records.{search_on}
use Rattle.engine.specs.Lent.{searches_lent}
use Rattle.engine.proofs.Runs.{Run}
use Rattle.engine.proofs.salvo.each_search_on_all.Given as goal

abbrev pub invariant-loop-i : goal.invariant-loop-i
invariant-loop-i l =
    Run (search_on l.up) (searches_lent l.tables) l.i-end l.initial.outbox l.outbox l.k l.i
