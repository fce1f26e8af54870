-- The first number of row i.
use mathlib.Core.Path.{◌∙◌}
use Rattle.engine.proofs.LinkRows as links
use Rattle.engine.proofs.links.index_at.Goals as goal

pub returns : goal.returns
returns c = c.low_32.ensures ∙ links.index-at c.args.i c.args.links.now
