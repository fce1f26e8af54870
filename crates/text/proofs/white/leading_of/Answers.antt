use mathlib.Core.Path.{sym}
use native.Mathlib.Omega.{arith}
use Rattle.text.proofs.Trimming as laws
use Rattle.text.proofs.white.leading_of.Goals as goal

pub loop-i-init : goal.loop-i-init
loop-i-init c = (omega arith, omega arith)

pub returns-then-w-eq0 : goal.returns-then-w-eq0
returns-then-w-eq0 c =
    let l = c.loop-i in
    let a = c.args in
    sym (laws.leading-stop a.s.now l.i c.opening_at-w.ensures c.if-w-eq0.true l.invariant.1)

pub overflow_add-i : goal.overflow_add-i
overflow_add-i c =
    let l = c.loop-i in
    let a = c.args in
    omega (arith, laws.leading-fits a.s.now l.i c.opening_at-w.ensures (omega arith))

pub loop-i-smaller : goal.loop-i-smaller
loop-i-smaller c =
    let l = c.loop-i in
    let a = c.args in
    omega (arith, laws.leading-fits a.s.now l.i c.opening_at-w.ensures (omega arith), c.if-w-eq0.false)

pub loop-i-preserved : goal.loop-i-preserved
loop-i-preserved c =
    let l = c.loop-i in
    let a = c.args in
    (laws.leading-fits a.s.now l.i c.opening_at-w.ensures (omega arith), laws.leading-turn a.s.now l.i c.opening_at-w.ensures l.invariant.1)

pub returns : goal.returns
returns c =
    let l = c.loop-i in
    let a = c.args in
    sym (laws.leading_end a.s.now l.i (omega arith) l.invariant.1)
