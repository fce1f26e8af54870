-- Each way out is a case of the definition.
use mathlib.Core.Path.{sym, ◌∙◌}
use Rattle.text.specs.Bytes.{bytes}
use Rattle.engine.proofs.Wanting as wanting
use Rattle.engine.proofs.wanted.wanted_of.Goals as goal

pub returns-then-equal : goal.returns-then-equal
unfolding bytes
returns-then-equal c = wanting.found_all _ (sym c.equal.ensures ∙ c.if-equal.true)

pub returns-in_default : goal.returns-in_default
unfolding bytes
returns-in_default c = wanting.found_none _ (sym c.equal.ensures ∙ c.if-equal.false) c.in_default.ensures.none

pub returns-in_default-parse : goal.returns-in_default-parse
unfolding bytes
returns-in_default-parse c =
    let i = c.in-Some.ensures.some in
    wanting.found_number _ _ _ (sym c.equal.ensures ∙ c.if-equal.false) i.0 i.1 c.in_default-parse.ensures

pub returns : goal.returns
unfolding bytes
returns c =
    let i = c.in-Some.ensures.some in
    wanting.found_number _ _ _ (sym c.equal.ensures ∙ c.if-equal.false) i.0 i.1 c.in-Some-parse.ensures
