-- `address_of` meets its contract: a dot or an octet is missing, or all four are there.
use Rattle.std.proofs.Common.{refl, sym, ◌∙◌, ◌-◌, ◌+◌, arith, length-drop}
use Rattle.console.specs.Address.{address}
use Rattle.console.proofs.Octets.{bound-next, no_dot, no_octet, an_octet, no_last, last-octet}
use Rattle.console.proofs.Parts.{tail}
use Rattle.console.proofs.address.address_of.Goals as goal

pub loop-init : goal.loop-init
unfolding address
loop-init c = (omega arith, omega arith, refl)

pub returns-in_err-dot : goal.returns-in_err-dot
returns-in_err-dot c =
    let l = c.loop in
    c.from_residual.ensures ∙ sym (l.invariant.2 ∙ no_dot l.n l.rest.now refl (3 - l.counter) (omega arith) (omega (arith, c.in_err-dot.ensures.none)))

pub returns-in_err-octet_of : goal.returns-in_err-octet_of
returns-in_err-octet_of c =
    let l = c.loop in
    let dot = c.in_ok-dot.ensures.some in
    c.from_residual-in_err-octet_of.ensures ∙ sym (l.invariant.2 ∙ no_octet l.n l.rest.now dot.0 (3 - l.counter) (omega arith) dot.1 c.in_err-octet_of.ensures)

pub overflow_add-rest : goal.overflow_add-rest
overflow_add-rest c = omega (arith, c.in_ok-dot.ensures.some, c.loop.invariant.1)

pub loop-preserved : goal.loop-preserved
loop-preserved c =
    let l = c.loop in
    let dot = c.in_ok-dot.ensures.some in
    let t = tail l.rest.now (c.in_ok-dot.dot + 1) in (
      bound-next l.counter l.n _ (omega arith) (omega arith) l.invariant.0,
      rw t (omega (arith, l.invariant.1, length-drop (c.in_ok-dot.dot + 1) l.rest.now)),
      l.invariant.2 ∙ an_octet l.n l.rest.now dot.0 (3 - l.counter) (3 - (l.counter + 1)) (omega arith) dot.1 c.in_ok-octet_of.ensures ∙ sym (rw (c.from.ensures, t) refl),
    )

pub returns-in_err-octet_of-2 : goal.returns-in_err-octet_of-2
returns-in_err-octet_of-2 c =
    let l = c.loop in
    c.from_residual-in_err-octet_of-2.ensures ∙ sym (l.invariant.2 ∙ no_last l.n l.rest.now (3 - l.counter) (omega arith) c.in_err-octet_of-2.ensures)

pub returns : goal.returns
returns c =
    let l = c.loop in
    rw c.from-2.ensures (sym (l.invariant.2 ∙ last-octet l.n l.rest.now (3 - l.counter) (omega arith) c.in_ok-octet_of-2.ensures))
