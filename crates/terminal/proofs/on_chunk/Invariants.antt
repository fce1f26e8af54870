-- `on_chunk` hands on the whole chunk: each step takes in a part of it, and then prints what is due.
use Rattle.std.proofs.Common.{◌≡◌, length}
use Rattle.engine.specs.Owned.{engine_in}
use Rattle.program.specs.Steps.{Ready, Hands}
use Rattle.terminal.proofs.on_chunk.Given as goal

abbrev pub invariant-loop-rest : goal.invariant-loop-rest
invariant-loop-rest l =
    (Ready l.state l.line l.outbox l.out)
    × (Hands l.initial.state (engine_in l.initial.arrays) l.initial.line l.initial.outbox l.chunk l.state (engine_in l.arrays) l.line l.outbox l.rest)
    × (length l.line ≡ length l.initial.line) × (length l.outbox ≡ length l.initial.outbox) × (length l.out ≡ length l.initial.out)

abbrev pub decreases-loop-rest : goal.decreases-loop-rest
decreases-loop-rest l = length l.rest
