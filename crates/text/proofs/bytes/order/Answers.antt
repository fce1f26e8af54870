use mathlib.Core.Path.{◌∙◌}
use Rattle.text.proofs.Comparing.{order-is}
use Rattle.text.proofs.bytes.order.Goals as goal

pub returns : goal.returns
returns c = c.cmp.ensures ∙ order-is c.args.s.now c.args.t.now
