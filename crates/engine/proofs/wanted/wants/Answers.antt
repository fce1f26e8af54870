-- The same type is always wanted; any other by what was found of the target, case by case.
use mathlib.Core.Path.{sym, ◌∙◌}
use Rattle.engine.proofs.Wanting as wanting
use Rattle.engine.proofs.wanted.wants.Goals as goal

pub returns-then-equal : goal.returns-then-equal
returns-then-equal c = wanting.wants_equal _ _ (sym c.equal.ensures ∙ c.if-equal.true)

pub is_later-requires : goal.is_later-requires
is_later-requires c = wanting.wants_within _ _ _ (sym c.in-Version.is ∙ c.requires)

pub returns-in-All : goal.returns-in-All
returns-in-All c = wanting.wants_all _ _ (sym c.in-All.is ∙ c.requires)

pub returns-in-Same : goal.returns-in-Same
returns-in-Same c = sym c.if-equal.false ∙ c.equal.ensures ∙ wanting.wants_same _ _ (sym c.in-Same.is ∙ c.requires)

pub returns-in-Version : goal.returns-in-Version
returns-in-Version c = c.is_later.ensures ∙ wanting.wants_later _ _ _ _ (sym c.in-Version.is ∙ c.requires)
