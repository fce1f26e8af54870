-- By whether any subscription is for all.
use mathlib.Core.Path.{sym, ◌∙◌, ap}
use lib.ListN.{length}
use Rattle.text.specs.Bytes.{bytes}
use Rattle.engine.specs.Lent.{searches_lent}
use Rattle.engine.proofs.Sending.{sent-as}
use Rattle.engine.proofs.Announcing.{for_all, for_each}
use native.Mathlib.Omega.{arith}
use Rattle.engine.proofs.salvo.searches_on_all.Goals as goal

pub returns-then-any_all : goal.returns-then-any_all
unfolding bytes
returns-then-any_all c =
    let a = c.args in
    let all = for_all a.up.now (searches_lent a.tables.now) (sym c.if-any_all.true ∙ c.any_all.ensures) in
    sent-as c.send_search.ensures all

pub returns : goal.returns
returns c =
    let a = c.args in
    let all = for_each a.up.now (searches_lent a.tables.now) (sym c.if-any_all.false ∙ c.any_all.ensures) in
    sent-as c.each_search_on_all.ensures all

pub send_search-requires : goal.send_search-requires
unfolding bytes
send_search-requires c =
    let a = c.args in
    let all = for_all a.up.now (searches_lent a.tables.now) (sym c.if-any_all.true ∙ c.any_all.ensures) in
    omega (arith, c.requires, ap length all)

pub each_search_on_all-requires : goal.each_search_on_all-requires
each_search_on_all-requires c =
    let a = c.args in
    let all = for_each a.up.now (searches_lent a.tables.now) (sym c.if-any_all.false ∙ c.any_all.ensures) in
    omega (arith, c.requires, ap length all)
