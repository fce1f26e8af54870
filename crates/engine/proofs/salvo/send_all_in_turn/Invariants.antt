-- The invariant is `Run` over the addresses.
use lib.ListN.{length}
use Rattle.engine.specs.Records.{all_from}
use Rattle.engine.specs.Lent.{names_lent, searches_lent}
use Rattle.engine.proofs.Runs.{Run}
use Rattle.engine.proofs.salvo.send_all_in_turn.Given as goal

abbrev pub invariant-loop-source : goal.invariant-loop-source
invariant-loop-source l =
    Run (all_from (searches_lent l.tables) (names_lent l.tables)) l.addresses (length l.addresses) l.initial.outbox l.outbox l.k l.source-index
