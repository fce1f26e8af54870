-- `append_numbers` meets its contract: each number is appended.
use Rattle.std.proofs.Common.{arith}
use Rattle.console.specs.Decimal.{number_then}
use Rattle.console.proofs.InEach.{each_start, each_turn}
use Rattle.console.proofs.decimal.append_numbers.Goals as goal

pub loop-n-init : goal.loop-n-init
loop-n-init c = each_start (number_then c.args.end) c.args.numbers.now

pub loop-n-preserved : goal.loop-n-preserved
loop-n-preserved c = each_turn (number_then c.args.end) c.args.numbers.now c.loop-n.n-index (omega arith) c.loop-n.invariant c.append_number-next.ensures
