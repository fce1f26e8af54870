-- `write_unhexed` meets its contract. The invariant: so many bytes are written.
use Rattle.console.specs.Buffer.{Appends}
use Rattle.console.specs.Hexadecimal.{pairs}
use Rattle.console.proofs.hexadecimal.write_unhexed.Given as goal

abbrev pub invariant-loop-high : goal.invariant-loop-high
invariant-loop-high l = Appends (pairs l.high-index l.text) l.initial.buf 0 l.buf l.len
