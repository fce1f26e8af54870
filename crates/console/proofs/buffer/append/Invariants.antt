-- `append` meets its contract. The invariant: so much of the text is appended.
use Rattle.std.proofs.Common.{take}
use Rattle.console.specs.Buffer.{Appends}
use Rattle.console.proofs.buffer.append.Given as goal

abbrev pub invariant-loop-byte : goal.invariant-loop-byte
invariant-loop-byte l = Appends (take l.byte-index l.text) l.initial.buf l.len l.buf l.end
