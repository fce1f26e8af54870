use mathlib.Core.Path.{sym}
use native.Mathlib.Omega.{arith}
use Rattle.text.proofs.Trimming as laws
use Rattle.text.proofs.white.trailing_of.Goals as goal

pub loop-e-init : goal.loop-e-init
loop-e-init c = (omega arith, laws.trailing-start c.args.s.now)

pub returns-then-w-eq0 : goal.returns-then-w-eq0
returns-then-w-eq0 c =
    let l = c.loop-e in
    let a = c.args in
    sym (laws.trailing-stop a.s.now l.e c.closing_at-w.ensures c.if-w-eq0.true l.invariant.1)

pub overflow_sub-e : goal.overflow_sub-e
overflow_sub-e c =
    let l = c.loop-e in
    let a = c.args in
    laws.trailing-fits a.s.now l.e c.closing_at-w.ensures (omega arith)

pub loop-e-smaller : goal.loop-e-smaller
loop-e-smaller c = omega (arith, c.if-w-eq0.false)

pub loop-e-preserved : goal.loop-e-preserved
loop-e-preserved c =
    let l = c.loop-e in
    let a = c.args in
    (omega arith, laws.trailing-turn a.s.now l.e c.closing_at-w.ensures (omega arith) l.invariant.1)

pub returns : goal.returns
returns c =
    let l = c.loop-e in
    let a = c.args in
    sym (laws.trailing-end a.s.now l.e (omega arith) l.invariant.1)
