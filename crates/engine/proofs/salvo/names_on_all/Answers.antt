use mathlib.Core.Path.{refl, sym, ◌∙◌}
use Rattle.engine.specs.Changes.{blank}
use Rattle.engine.proofs.NameRows.{names-length, name-is}
use Rattle.engine.proofs.TableRuns.{row-rest, row-turn, row-end}
use Rattle.engine.proofs.Runs as runs
use native.Mathlib.Omega.{arith}
use Rattle.engine.proofs.salvo.names_on_all.Goals as goal

pub loop-i-init : goal.loop-i-init
loop-i-init c = runs.start

pub loop-i-preserved : goal.loop-i-preserved
loop-i-preserved c =
    let a = c.args in
    let count = names-length a.tables.now.head.now a.tables.now.numbers.now a.tables.now.texts.now ∙ sym c.count_of-i-end.ensures in
    let h = c.loop-i in
    row-turn count blank (name-is a.tables.now.head.now a.tables.now.numbers.now a.tables.now.texts.now h.i (omega arith) ∙ sym c.active_at-a.ensures) c.requires (omega arith) h.invariant c.notify_name-k.ensures refl

pub returns : goal.returns
returns c =
    let a = c.args in
    let count = names-length a.tables.now.head.now a.tables.now.numbers.now a.tables.now.texts.now ∙ sym c.count_of-i-end.ensures in
    row-end count (omega arith) c.loop-i.invariant

pub notify_name-k-requires : goal.notify_name-k-requires
notify_name-k-requires c =
    let a = c.args in
    let count = names-length a.tables.now.head.now a.tables.now.numbers.now a.tables.now.texts.now ∙ sym c.count_of-i-end.ensures in
    let h = c.loop-i in
    (row-rest count blank (name-is a.tables.now.head.now a.tables.now.numbers.now a.tables.now.texts.now h.i (omega arith) ∙ sym c.active_at-a.ensures) c.requires (omega arith) h.invariant)
