-- Each chunk of `read_all` goes on from where the one before ended.
use Rattle.std.proofs.Common.{◌≡◌, length}
use Rattle.engine.specs.Owned.{engine_in}
use Rattle.program.specs.Steps.{Ready, Reads}
use Rattle.terminal.proofs.read_all.Given as goal

abbrev pub invariant-loop : goal.invariant-loop
invariant-loop l =
    (Ready l.state l.line l.outbox l.out)
    × (Reads l.initial.state (engine_in l.initial.arrays) l.initial.line l.initial.outbox l.state (engine_in l.arrays) l.line l.outbox)
    × (length l.line ≡ length l.initial.line) × (length l.outbox ≡ length l.initial.outbox) × (length l.out ≡ length l.initial.out)
