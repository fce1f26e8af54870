-- `append_record` meets its contract: its parts, one behind the other.
use mathlib.Core.Path.{◌∙◌, ap}
use Prim.Native.Nat.{ℕ}
use lib.ListN.{take, drop}
use Rattle.console.proofs.Appending as laws
use Rattle.dialogue.proofs.Lengths.{record-most}
use Rattle.console.specs.Decimal.{number_then}
use Rattle.console.specs.Hexadecimal.{hex_text}
use Rattle.dialogue.specs.Printing.{record_line}
use Rattle.dialogue.proofs.record.append_record.Goals as goal

pub returns : goal.returns
unfolding record_line
returns c =
    let s = c.args.s.now in
    let size = c.number_at-size.ensures.0 in (
      laws.◌⨟◌ c.append_head-next.ensures.0
          (laws.◌⨟◌ (laws.text c.append_number-next.ensures (ap (number_then 32) size))
          (laws.◌⨟◌ (laws.text c.append_hex-next.ensures (ap hex_text (c.front-message.ensures ∙ ap (take c.number_at-size.result) c.tail.ensures ∙ ap (λ (n : ℕ). take n (drop 12 s)) size)))
          c.push.ensures)),
      record-most s c.append_head-next.ensures.1 size c.number_at-size.ensures.1,
    )
