-- `append_address` meets its contract: four numbers, one behind the other.
use mathlib.Core.Path.{◌∙◌, ap}
use native.Mathlib.Omega.{arith}
use Rattle.console.specs.Decimal.{number_then}
use Rattle.console.specs.Address.{address_then}
use Rattle.console.proofs.Appending as laws
use Rattle.console.proofs.Lengths.{octet, address-most}
use Rattle.console.proofs.address.append_address.Goals as goal

pub returns : goal.returns
unfolding address_then
returns c =
    let end = c.args.end in
    let s = c.args.s.now in (
      laws.◌⨟◌ (laws.text c.append_number-first.ensures (ap (number_then 46) (c.from.ensures ∙ c.byte_at.ensures)))
          (laws.◌⨟◌ (laws.text c.append_number-second.ensures (ap (number_then 46) (c.from-2.ensures ∙ c.byte_at-2.ensures)))
          (laws.◌⨟◌ (laws.text c.append_number-third.ensures (ap (number_then 46) (c.from-3.ensures ∙ c.byte_at-3.ensures)))
          (laws.text c.append_number.ensures (ap (number_then end) (c.from-4.ensures ∙ c.byte_at-4.ensures))))),
      address-most end s (octet (c.from.ensures ∙ c.byte_at.ensures) (omega arith)) (octet (c.from-2.ensures ∙ c.byte_at-2.ensures) (omega arith)) (octet (c.from-3.ensures ∙ c.byte_at-3.ensures) (omega arith)) (octet (c.from-4.ensures ∙ c.byte_at-4.ensures) (omega arith)),
    )
