-- `number::up_to`: a text that starts with a sign, and any other.
use mathlib.Core.Path.{sym, ◌∙◌, ap}
use Rattle.text.specs.Number.{unsigned}
use Rattle.text.proofs.Digits.{sign}
use Rattle.text.proofs.number.up_to.Goals as goal

pub returns : goal.returns
returns c = c.digits_up_to.ensures ∙ ap (λ t. unsigned c.args.max t.now) c.unwrap_or.ensures ∙ sym (sign c.args.max c.args.s c.strip_prefix.result c.strip_prefix.ensures.cases)
