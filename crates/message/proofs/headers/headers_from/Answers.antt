-- `headers_from`: each turn reads one line into the table.
use mathlib.Core.Path.{refl, sym, ◌∙◌}
use native.Mathlib.Omega.{arith}
use lib.Seq.{length-take-le}
use Rattle.message.specs.Headers.{listed}
use Rattle.message.proofs.Lookup.{begin, end, turn, line-short, line-inside, line-some, value_room, noted-entry, noted_other, place_below}
use Rattle.message.proofs.headers.headers_from.Goals.{in-Some, in_default}
use Rattle.message.proofs.headers.headers_from.Goals as goal

pub loop-at-init : goal.loop-at-init
loop-at-init c =
    let e = c.default-latest.ensures in
    rw (e.0, e.1.0, e.1.1.0, e.1.1.1.0, e.1.1.1.1.0, e.1.1.1.1.1) (begin c.args.s.now c.args.from)

pub slice_bounds-entry_of-end : goal.slice_bounds-entry_of-end
slice_bounds-entry_of-end c = sym (length-take-le _ _ (line-short c.args.s.now c.loop-at.at c.loop-at-test.true refl c.first_line-line.ensures))

pub overflow_add-start : goal.overflow_add-start
overflow_add-start c =
    let e = c.in-Some.ensures in
    let room = value_room c.args.s.now c.loop-at.at c.loop-at-test.true refl c.first_line-line.ensures (place_below c.in-Some.field-0.key) e.0 e.1 in
    omega arith

pub overflow_add-at : goal.overflow_add-at
overflow_add-at c = let inside = line-inside c.args.s.now c.loop-at.at c.loop-at-test.true refl c.first_line-line.ensures in omega arith

pub loop-at-smaller : goal.loop-at-smaller
loop-at-smaller c =
    let some = line-some c.args.s.now c.loop-at.at c.loop-at-test.true refl c.first_line-line.ensures in
    let inside = line-inside c.args.s.now c.loop-at.at c.loop-at-test.true refl c.first_line-line.ensures in
    omega arith

pub loop-at-preserved : goal.loop-at-preserved
loop-at-preserved c =
    let h = c.loop-at in
    elim c.match-entry_of.branch [
      | in-Some w ↦ rw w.latest-is (turn c.args.s.now h.at c.loop-at-test.true refl c.first_line-line.ensures (listed h.latest) (noted-entry _ h.at (listed h.latest) refl w.in-Some.ensures.0 w.in-Some.ensures.1 ∙ sym w.note.ensures) ∙ h.invariant)
      | in_default w ↦ rw w.latest-is (turn c.args.s.now h.at c.loop-at-test.true refl c.first_line-line.ensures (listed h.latest) (noted_other _ h.at (listed h.latest) refl w.in_default.ensures) ∙ h.invariant)
    ]

pub returns : goal.returns
returns c = let h = c.loop-at in sym (end c.args.s.now h.at (listed h.latest) c.loop-at-test.false) ∙ h.invariant
