-- One search where a subscription is for all, else one for each.
use mathlib.Core.Path.{sym, ◌∙◌}
use native.Mathlib.Omega.{arith}
use Rattle.engine.specs.Arrays.{searches_in}
use Rattle.engine.proofs.RecordCount.{searches-all, searches-each}
use Rattle.engine.proofs.Lending.{searches-length}
use Rattle.engine.proofs.need.entry_count.Goals as goal

pub returns-then-any_all : goal.returns-then-any_all
returns-then-any_all c =
    let a = c.args in
    let all = searches-all (searches_in a.head.now a.searches.now) (sym c.any_all.ensures ∙ c.if-any_all.true) in
    (omega (arith, all, c.count_of-n.ensures), omega (arith, c.count_of-n.ensures))

pub returns : goal.returns
returns c =
    let a = c.args in
    let each = searches-each (searches_in a.head.now a.searches.now) (sym c.any_all.ensures ∙ c.if-any_all.false) in
    let many = searches-length a.head.now a.searches.now in
    (omega (arith, each, many, c.count_of-n.ensures, c.count_of.ensures), omega (arith, c.count_of-n.ensures, c.count_of.ensures))
