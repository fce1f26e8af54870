-- `append_hex` meets its contract. The invariant: the digits of so many bytes are appended.
use Rattle.std.proofs.Common.{take}
use Rattle.console.specs.Buffer.{Appends}
use Rattle.console.specs.Each.{each}
use Rattle.console.specs.Hexadecimal.{hex_byte}
use Rattle.console.proofs.hexadecimal.append_hex.Given as goal

abbrev pub invariant-loop-byte : goal.invariant-loop-byte
invariant-loop-byte l = Appends (each hex_byte (take l.byte-index l.text)) l.initial.buf l.len l.buf l.end
