use mathlib.Core.Path.{refl, sym, ◌∙◌}
use mathlib.Core.List.{[]}
use Rattle.engine.proofs.TableRuns.{searches-length, search_is, row-rest, row-turn, row-end}
use Rattle.engine.proofs.Runs as runs
use native.Mathlib.Omega.{arith}
use Rattle.engine.proofs.salvo.each_search_on_all.Goals as goal

pub loop-i-init : goal.loop-i-init
loop-i-init c = runs.start

pub loop-i-preserved : goal.loop-i-preserved
loop-i-preserved c =
    let a = c.args in
    let count = searches-length a.tables.now.head.now a.tables.now.searches.now ∙ sym c.count_of-i-end.ensures in
    let h = c.loop-i in
    row-turn count [] (search_is a.tables.now.head.now a.tables.now.searches.now h.i (omega arith) ∙ sym c.service_at-service.ensures) c.requires (omega arith) h.invariant c.send_search-k.ensures refl

pub returns : goal.returns
returns c =
    let a = c.args in
    let count = searches-length a.tables.now.head.now a.tables.now.searches.now ∙ sym c.count_of-i-end.ensures in
    row-end count (omega arith) c.loop-i.invariant

pub send_search-k-requires : goal.send_search-k-requires
send_search-k-requires c =
    let a = c.args in
    let count = searches-length a.tables.now.head.now a.tables.now.searches.now ∙ sym c.count_of-i-end.ensures in
    let h = c.loop-i in
    row-rest count [] (search_is a.tables.now.head.now a.tables.now.searches.now h.i (omega arith) ∙ sym c.service_at-service.ensures) c.requires (omega arith) h.invariant
