-- `print_due` ends: each step prints a piece of what is due.
use Rattle.std.proofs.Common.{◌≡◌, List, ℕ, length}
use Rattle.engine.specs.Arrays.{Engine}
use Rattle.program.specs.Steps.{pieces, Hands}
use Rattle.terminal.proofs.print_due.Given as goal

abbrev pub invariant-loop-to : goal.invariant-loop-to
invariant-loop-to l =
    (length l.out ≡ length l.initial.out) × (l.state.held ≡ l.initial.state.held) × ((e : Engine) (line rest : List ℕ) → Hands l.initial.state e line l.outbox rest l.state e line l.outbox rest)

abbrev pub decreases-loop-to : goal.decreases-loop-to
decreases-loop-to l = pieces l.state
