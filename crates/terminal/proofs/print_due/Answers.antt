use Rattle.std.proofs.Common.{sym, ◌∙◌, arith}
use Rattle.program.proofs.Handing as laws
use Rattle.terminal.proofs.print_due.Goals as goal

pub loop-to-preserved : goal.loop-to-preserved
loop-to-preserved c =
    let i = c.loop-to.invariant in
    let printed = c.print_due-step.ensures (sym c.is_some.ensures ∙ c.loop-to-test.true) (omega (arith, i.0, c.requires)) in
    (c.print_due-step.auto.out ∙ i.0, printed.held ∙ i.1, λ e line rest. laws.◌⨟◌ (i.2 e line rest) (laws.printed-piece printed e line rest))
