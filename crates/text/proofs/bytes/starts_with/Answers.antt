use mathlib.Core.Path.{◌∙◌}
use Rattle.text.proofs.Comparing.{starts-is}
use Rattle.text.proofs.bytes.starts_with.Goals as goal

pub returns : goal.returns
returns c = c.starts_with.ensures.value ∙ starts-is c.args.s.now c.args.p.now
