use mathlib.Core.Path.{◌∙◌}
use Rattle.text.proofs.Comparing.{same-pointwise}
use Rattle.text.proofs.bytes.equal.Goals as goal

pub returns : goal.returns
returns c = c.eq.ensures ∙ same-pointwise c.args.s.now c.args.t.now
