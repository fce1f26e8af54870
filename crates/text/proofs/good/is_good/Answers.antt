use mathlib.Core.Path.{sym, ◌∙◌}
use Rattle.text.proofs.Visible.{visible-good}
use Rattle.text.proofs.good.is_good.Goals as goal

pub returns-then-is_visible : goal.returns-then-is_visible
returns-then-is_visible c = c.if-is_visible.true ∙ visible-good c.args.s.now (sym c.is_visible.ensures ∙ c.if-is_visible.true)
