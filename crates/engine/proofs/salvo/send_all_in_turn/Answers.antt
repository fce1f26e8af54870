use Rattle.std.proofs.Common.{refl, arith}
use Rattle.engine.specs.Records.{all_from}
use Rattle.engine.specs.Lent.{names_lent, searches_lent}
use Rattle.engine.proofs.Runs as runs
use Rattle.engine.proofs.salvo.send_all_in_turn.Goals as goal

pub loop-source-init : goal.loop-source-init
loop-source-init c = runs.start

pub send_all-k-requires : goal.send_all-k-requires
send_all-k-requires c =
    let a = c.args in
    let all = runs.several a.addresses.now (all_from (searches_lent a.tables.now) (names_lent a.tables.now)) in
    runs.more-rest 0 refl all c.requires (omega arith) (omega arith) c.loop-source.invariant

pub loop-source-preserved : goal.loop-source-preserved
loop-source-preserved c =
    let a = c.args in
    let all = runs.several a.addresses.now (all_from (searches_lent a.tables.now) (names_lent a.tables.now)) in
    runs.turn 0 refl all c.requires (omega arith) (omega arith) c.loop-source.invariant c.send_all-k.ensures refl

pub returns : goal.returns
returns c =
    let a = c.args in
    let all = runs.several a.addresses.now (all_from (searches_lent a.tables.now) (names_lent a.tables.now)) in
    runs.end all (omega arith) c.loop-source.invariant

pub overflow_add-k : goal.overflow_add-k
overflow_add-k c =
    let a = c.args in
    let all = runs.several a.addresses.now (all_from (searches_lent a.tables.now) (names_lent a.tables.now)) in
    omega (arith, runs.turn-fits 0 refl all c.requires (omega arith) (omega arith) c.loop-source.invariant c.send_all-k.ensures)
