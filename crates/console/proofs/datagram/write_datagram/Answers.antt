-- `write_datagram` meets its contract: what each byte of the line stands for is appended.
use Rattle.std.proofs.Common.{arith}
use Rattle.console.specs.Datagram.{unbarred, datagram}
use Rattle.console.proofs.Appending.{filled}
use Rattle.console.proofs.InEach.{each_start, each_turn, each-end}
use Rattle.console.proofs.datagram.write_datagram.Goals as goal

pub loop-byte-init : goal.loop-byte-init
loop-byte-init c = each_start unbarred c.args.text.now

pub loop-byte-preserved : goal.loop-byte-preserved
loop-byte-preserved c = each_turn unbarred c.args.text.now c.loop-byte.byte-index (omega arith) c.loop-byte.invariant c.append_byte-len.ensures

pub returns : goal.returns
unfolding datagram
returns c = filled (each-end unbarred c.args.text.now c.loop-byte.byte-index (omega arith) c.loop-byte.invariant)
