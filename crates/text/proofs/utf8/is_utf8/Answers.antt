use Prim.Native.Nat.{ℕ, ◌+◌}
use lib.ListN.{get_or, drop}
use Rattle.text.specs.Utf8.{utf8}
use mathlib.Core.Path.{refl, sym, ◌∙◌, ap}
use native.Mathlib.Omega.{arith}
use Rattle.text.proofs.Encoding as laws
use Rattle.text.proofs.utf8.is_utf8.Goals as goal

pub returns-then-is_ascii : goal.returns-then-is_ascii
returns-then-is_ascii c = laws.ascii-whole c.args.s.now (sym c.is_ascii.ensures ∙ c.if-is_ascii.true)

pub loop-i-init : goal.loop-i-init
loop-i-init c = (omega arith, refl)

pub ascii_end-i-requires : goal.ascii_end-i-requires
ascii_end-i-requires c =
    let l = c.loop-i in
    let a = c.args in
    (omega arith, laws.no_tail (get_or a.s.now l.i 0) (omega (arith, c.shared_slice_known-in-loop-i-1.given l.i)) c.lead_of-lead.ensures (omega arith))

pub loop-i-smaller-then-lead-eq0 : goal.loop-i-smaller-then-lead-eq0
loop-i-smaller-then-lead-eq0 c = omega (arith, c.ascii_end-i.ensures)

pub loop-i-preserved-then-lead-eq0 : goal.loop-i-preserved-then-lead-eq0
loop-i-preserved-then-lead-eq0 c = (c.ascii_end-i.ensures.1, sym c.ascii_end-i.ensures.2 ∙ c.loop-i.invariant.1)

pub has_tail-requires : goal.has_tail-requires
has_tail-requires c =
    let l = c.loop-i in
    let a = c.args in
    laws.tail-most (get_or a.s.now l.i 0) (omega (arith, c.shared_slice_known-in-loop-i-1.given l.i)) c.lead_of-lead.ensures

pub returns-then-not-has_tail : goal.returns-then-not-has_tail
returns-then-not-has_tail c =
    let l = c.loop-i in
    let a = c.args in
    let k = laws.character a.s.now l.i (omega arith) c.lead_of-lead.ensures c.has_tail.ensures in
    laws.refused k (c.if-not-has_tail.true) ∙ l.invariant.1

pub overflow_add-i-in-loop-i : goal.overflow_add-i-in-loop-i
overflow_add-i-in-loop-i c =
    let l = c.loop-i in
    let a = c.args in
    let k = laws.character a.s.now l.i (omega arith) c.lead_of-lead.ensures c.has_tail.ensures in
    omega (arith, k.inside (c.if-not-has_tail.false))

pub loop-i-preserved : goal.loop-i-preserved
loop-i-preserved c =
    let l = c.loop-i in
    let a = c.args in
    let k = laws.character a.s.now l.i (omega arith) c.lead_of-lead.ensures c.has_tail.ensures in
    (omega (arith, k.inside c.if-not-has_tail.false), ap (λ (n : ℕ). utf8 (drop (l.i + (1 + n)) a.s.now)) c.from.ensures ∙ laws.passed k (c.if-not-has_tail.false) ∙ l.invariant.1)

pub returns : goal.returns
returns c =
    let l = c.loop-i in
    let a = c.args in
    laws.nothing_left a.s.now l.i (omega arith) ∙ l.invariant.1
