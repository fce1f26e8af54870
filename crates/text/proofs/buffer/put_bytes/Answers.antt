use mathlib.Core.Path.{refl}
use native.Mathlib.Omega.{arith}
use lib.ListN.{length-set}
use lib.Seq.{paste-zero}
use Rattle.text.proofs.Writing as laws
use Rattle.text.proofs.buffer.put_bytes.Goals as goal

pub loop-i-init : goal.loop-i-init
loop-i-init c =
    let s = c.args in
    (omega arith, omega arith, refl, paste-zero s.buf.now s.at s.text.now)

pub bounds-text-i : goal.bounds-text-i
bounds-text-i c = omega arith

pub bounds-buf-next : goal.bounds-buf-next
bounds-buf-next c = omega arith

pub overflow_add-next : goal.overflow_add-next
overflow_add-next c = omega arith

pub overflow_add-i : goal.overflow_add-i
overflow_add-i c = omega arith

pub loop-i-smaller : goal.loop-i-smaller
loop-i-smaller c = omega arith

pub loop-i-preserved : goal.loop-i-preserved
loop-i-preserved c =
    let h = c.loop-i in
    let s = c.args in (
      omega arith,
      omega arith,
      simp length-set h.invariant.2,
      laws.turn s.buf.now h.buf s.text.now s.at h.i h.next h.invariant.0 (omega arith) (omega arith) h.invariant.3,
    )

pub shape_of-buf : goal.shape_of-buf
shape_of-buf c = c.loop-i.invariant.2

pub returns : goal.returns
returns c =
    let h = c.loop-i in
    let s = c.args in
    record {
      place = omega arith;
      written = laws.copied s.buf.now h.buf s.text.now s.at h.i (omega arith) h.invariant.3;
    }
