-- The five numbers of row i, by their places in the array.
use mathlib.Core.Path.{◌∙◌}
use Rattle.engine.proofs.NameRows as names
use Rattle.engine.proofs.names.reply_at.Goals as goal

pub returns : goal.returns
returns c = c.reply_of.ensures ∙ names.reply-at c.args.i c.args.numbers.now
