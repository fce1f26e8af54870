use Prim.Native.Nat.{ℕ, ◌+◌}
use lib.ListN.{drop}
use mathlib.Core.Path.{sym, ◌∙◌, ap}
use native.Mathlib.Omega.{arith}
use borrow.Author.Tests.{eqb-true, eqb-false}
use Rattle.text.specs.Number.{more}
use Rattle.text.proofs.Digits as laws
use Rattle.text.proofs.number.digits_up_to.Goals as goal

pub returns-then-is_empty : goal.returns-then-is_empty
returns-then-is_empty c = sym (laws.no_digits c.args.max c.args.s.now (eqb-true _ 0 (sym c.is_empty.ensures ∙ c.if-is_empty.true)))

pub loop-d-init : goal.loop-d-init
loop-d-init c = (omega arith, laws.some-digits c.args.max c.args.s.now (eqb-false _ 0 (sym c.is_empty.ensures ∙ c.if-is_empty.false)))

pub returns-then-not-is_ascii_digit : goal.returns-then-not-is_ascii_digit
returns-then-not-is_ascii_digit c =
    let l = c.loop-d in
    sym (l.invariant.1 ∙ laws.digit-not c.args.max l.n c.args.s.now l.d-index (omega arith) (sym c.is_ascii_digit.ensures.value ∙ c.if-not-is_ascii_digit.true))

pub returns-in_err-checked_mul : goal.returns-in_err-checked_mul
returns-in_err-checked_mul c =
    let l = c.loop-d in
    c.from_residual.ensures
    ∙ sym (l.invariant.1 ∙ laws.digit-over c.args.max l.n c.args.s.now l.d-index (omega arith) (sym c.is_ascii_digit.ensures.value ∙ c.if-not-is_ascii_digit.false) (omega arith))

pub returns-in_err-n : goal.returns-in_err-n
returns-in_err-n c =
    let l = c.loop-d in
    c.from_residual-in_err-n.ensures
    ∙ sym (l.invariant.1 ∙ laws.digit-over c.args.max l.n c.args.s.now l.d-index (omega arith) (sym c.is_ascii_digit.ensures.value ∙ c.if-not-is_ascii_digit.false) (omega arith))

pub returns-then-max-n : goal.returns-then-max-n
returns-then-max-n c =
    let l = c.loop-d in
    sym (l.invariant.1 ∙ laws.digit-over c.args.max l.n c.args.s.now l.d-index (omega arith) (sym c.is_ascii_digit.ensures.value ∙ c.if-not-is_ascii_digit.false) (omega arith))

pub loop-d-preserved : goal.loop-d-preserved
loop-d-preserved c =
    let l = c.loop-d in
    (omega arith, l.invariant.1 ∙ laws.digit-turn c.args.max l.n c.args.s.now l.d-index (omega arith) (sym c.is_ascii_digit.ensures.value ∙ c.if-not-is_ascii_digit.false) ∙ ap (λ (n : ℕ). more c.args.max n (drop (l.d-index + 1) c.args.s.now)) (omega arith))

pub returns : goal.returns
returns c =
    let l = c.loop-d in
    sym (l.invariant.1 ∙ laws.digits-end c.args.max l.n c.args.s.now l.d-index (omega arith) (omega arith))
