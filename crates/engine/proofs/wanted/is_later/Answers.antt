-- The tests are the definition's, one after the other.
use mathlib.Core.Path.{sym, ◌∙◌}
use Rattle.engine.proofs.Wanting as wanting
use Rattle.engine.proofs.wanted.is_later.Goals as goal

pub returns-then-candidate-i : goal.returns-then-candidate-i
returns-then-candidate-i c = wanting.too_short _ _ _ _ c.if-candidate-i.true

pub returns-then-candidate-i-ne-COLON : goal.returns-then-candidate-i-ne-COLON
returns-then-candidate-i-ne-COLON c = wanting.no_colon-there _ _ _ _ c.if-candidate-i.false c.if-candidate-i-ne-COLON.true

pub returns-then-not-equal : goal.returns-then-not-equal
returns-then-not-equal c = wanting.other-front _ _ _ _ c.if-candidate-i.false c.if-candidate-i-ne-COLON.false (sym c.equal.ensures ∙ c.if-not-equal.true)

pub returns : goal.returns
returns c =
    let s = c.args in
    c.at_least.ensures ∙ wanting.later-number _ _ _ _ _ c.if-candidate-i.false c.if-candidate-i-ne-COLON.false (sym c.equal.ensures ∙ c.if-not-equal.false) c.parse.ensures
