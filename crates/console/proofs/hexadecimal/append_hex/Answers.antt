-- `append_hex` meets its contract: the digits of each byte are appended.
use Rattle.std.proofs.Common.{arith}
use Rattle.console.specs.Hexadecimal.{hex_byte, hex_text}
use Rattle.console.proofs.InEach.{each_start, each_turn, each-end}
use Rattle.console.proofs.hexadecimal.append_hex.Goals as goal

pub loop-byte-init : goal.loop-byte-init
loop-byte-init c = each_start hex_byte c.args.text.now

pub loop-byte-preserved : goal.loop-byte-preserved
loop-byte-preserved c = each_turn hex_byte c.args.text.now c.loop-byte.byte-index (omega arith) c.loop-byte.invariant c.append_hex_byte-end.ensures

pub returns : goal.returns
unfolding hex_text
returns c = each-end hex_byte c.args.text.now c.loop-byte.byte-index (omega arith) c.loop-byte.invariant
