use mathlib.Core.Path.{refl, ◌∙◌, ap}
use Prim.Native.Nat.{◌+◌, ◌-◌}
use native.Mathlib.Omega.{arith}
use lib.ListN.{length}
use lib.Seq.{paste-zero, length-paste}
use Rattle.text.proofs.Writing as laws
use borrow.Author.Rules.{rules}
use Rattle.text.proofs.buffer.put_blocks.Goals as goal

pub loop-i-init : goal.loop-i-init
loop-i-init c =
    let s = c.args in
    (omega arith, refl, paste-zero s.buf.now s.at s.text.now)

pub overflow_sub-text : goal.overflow_sub-text
overflow_sub-text c = omega arith

pub overflow_add-e : goal.overflow_add-e
overflow_add-e c = omega arith

pub overflow_add-at : goal.overflow_add-at
overflow_add-at c = omega arith

pub slice_bounds-put_block-count : goal.slice_bounds-put_block-count
slice_bounds-put_block-count c = omega arith

pub slice_bounds-put_block-start : goal.slice_bounds-put_block-start
slice_bounds-put_block-start c = omega arith

pub slice_bounds-put_block-end : goal.slice_bounds-put_block-end
slice_bounds-put_block-end c = omega arith

pub put_block-requires : goal.put_block-requires
put_block-requires c =
    let i = c.loop-i.i in
    (laws.part_length c.args.text.now i (i + 16) (omega arith) ∙ omega arith, omega arith)

pub loop-i-smaller : goal.loop-i-smaller
loop-i-smaller c = omega arith

pub loop-i-preserved : goal.loop-i-preserved
loop-i-preserved c =
    let l = c.loop-i in
    let a = c.args in
    let next = laws.over a.buf.now a.text.now a.at l.i l.i (l.i + 16) (omega arith) (omega arith) (omega arith) (omega arith) l.invariant.2 c.put_block.ensures in
    (omega arith, ap length next ∙ length-paste a.buf.now a.at a.text.now (l.i + 16) (omega arith) (omega arith), next)

pub overflow_sub-last : goal.overflow_sub-last
overflow_sub-last c = omega arith

pub overflow_add-at-2 : goal.overflow_add-at-2
overflow_add-at-2 c = omega arith

pub slice_bounds-put_block-count-2 : goal.slice_bounds-put_block-count-2
slice_bounds-put_block-count-2 c = omega arith

pub slice_bounds-put_block-start-2 : goal.slice_bounds-put_block-start-2
slice_bounds-put_block-start-2 c = omega arith

pub slice_bounds-put_block-end-2 : goal.slice_bounds-put_block-end-2
slice_bounds-put_block-end-2 c = omega arith

pub put_block-requires-2 : goal.put_block-requires-2
put_block-requires-2 c =
    let text = c.args.text.now in
    (laws.part_length text (length text - 16) (length text) (omega arith) ∙ omega arith, omega arith)

pub shape_of-buf : goal.shape_of-buf
shape_of-buf c = search rules

pub returns : goal.returns
returns c =
    let l = c.loop-i in
    let a = c.args in
    let text = a.text.now in
    let k = length text - 16 in
    let put = c.put_block-2.ensures in
    let end = laws.over a.buf.now text a.at l.i k (length text) (omega arith) (omega arith) (omega arith) (omega arith) l.invariant.2 put in
    record {
      place = put.place ∙ omega (arith, laws.part_length text k (length text) (omega arith));
      written = laws.copied a.buf.now _ text a.at (length text) refl end;
    }
