-- `number_at` meets its contract: two bytes of what follows.
use Rattle.dialogue.proofs.Outbox as laws
use Rattle.std.proofs.Common.{◌≡◌, ◌+◌, ◌*◌, ◌∙◌, arith}
use Rattle.dialogue.proofs.record.number_at.Goals as goal

pub returns : goal.returns
returns c =
    let sum : c.from.result ≡ 256 * c.byte_at.result + c.byte_at-2.result = omega (arith, c.from.ensures, c.from_be_bytes.ensures) in
    (sum ∙ laws.number-at c.args.at c.args.s.now c.tail-rest.ensures c.byte_at.ensures c.byte_at-2.ensures, omega (arith, c.from.ensures))
