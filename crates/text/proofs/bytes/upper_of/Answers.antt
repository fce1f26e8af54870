use mathlib.Core.Path.{◌∙◌}
use Rattle.text.proofs.Comparing.{upper-is}
use Rattle.text.proofs.bytes.upper_of.Goals as goal

pub returns : goal.returns
returns c = c.to_ascii_uppercase.ensures.value ∙ upper-is c.args.a
