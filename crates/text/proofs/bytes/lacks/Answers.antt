use mathlib.Core.Path.{◌∙◌, ap}
use mathlib.Core.Bool.{not}
use Rattle.text.proofs.Finding.{lacks-is}
use Rattle.text.proofs.bytes.lacks.Goals as goal

pub returns : goal.returns
returns c = ap not c.contains.ensures.value ∙ lacks-is c.args.b c.args.s.now
