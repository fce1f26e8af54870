-- `append_numbers` meets its contract. The invariant: so many numbers are appended.
use Rattle.std.proofs.Common.{take}
use Rattle.console.specs.Buffer.{Appends}
use Rattle.console.specs.Each.{each}
use Rattle.console.specs.Decimal.{number_then}
use Rattle.console.proofs.decimal.append_numbers.Given as goal

abbrev pub invariant-loop-n : goal.invariant-loop-n
invariant-loop-n l = Appends (each (number_then l.end) (take l.n-index l.numbers)) l.initial.buf l.len l.buf l.next
