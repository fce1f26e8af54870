-- `write_datagram` meets its contract. The invariant: so much of the datagram is written.
use Rattle.std.proofs.Common.{take}
use Rattle.console.specs.Buffer.{Appends}
use Rattle.console.specs.Each.{each}
use Rattle.console.specs.Datagram.{unbarred}
use Rattle.console.proofs.datagram.write_datagram.Given as goal

abbrev pub invariant-loop-byte : goal.invariant-loop-byte
invariant-loop-byte l = Appends (each unbarred (take l.byte-index l.text)) l.initial.buf 0 l.buf l.len
