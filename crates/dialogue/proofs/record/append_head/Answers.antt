-- `append_head` meets its contract: its parts, one behind the other.
use mathlib.Core.Path.{ap}
use Rattle.console.proofs.Appending as laws
use Rattle.dialogue.proofs.Lengths.{head-most}
use Rattle.console.specs.Decimal.{number_then}
use Rattle.console.specs.Address.{address_then}
use Rattle.text.specs.Bytes.{bytes}
use Rattle.dialogue.specs.Printing.{head_line}
use Rattle.dialogue.proofs.record.append_head.Goals as goal

pub returns : goal.returns
unfolding head_line bytes
returns c = (
  laws.◌⨟◌ c.append-next.ensures (laws.◌⨟◌ c.append_address-next.ensures.0
      (laws.◌⨟◌ (laws.text c.append_number-next.ensures (ap (number_then 32) c.number_at.ensures.0))
      (laws.text c.append_address.ensures.0 (ap (address_then 32) c.tail.ensures)))),
  head-most c.args.s.now c.append_address-next.ensures.1 c.number_at.ensures.0 c.number_at.ensures.1 c.tail.ensures c.append_address.ensures.1,
)
