-- `announce_on_all` meets its contract. The invariant is `Run` over the addresses: those before `i` have their records. The measure is how many
-- addresses are left.
use mathlib.Core.List.{[], ◌∷◌}
use lib.ListN.{length}
use Rattle.engine.specs.Announcements.{announced}
use Rattle.engine.proofs.Runs.{Run}
use Rattle.engine.proofs.announce.announce_on_all.Given as goal

abbrev pub invariant-loop-k : goal.invariant-loop-k
invariant-loop-k l =
    Run (λ source. announced l.what source ∷ []) l.up (length l.up) l.initial.outbox l.outbox l.k l.k
