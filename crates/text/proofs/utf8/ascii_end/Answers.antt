use mathlib.Core.Path.{sym, ◌∙◌}
use native.Mathlib.Omega.{arith}
use Rattle.text.proofs.Encoding as laws
use Rattle.text.proofs.utf8.ascii_end.Goals as goal

pub returns-then-is_ascii : goal.returns-then-is_ascii
returns-then-is_ascii c =
    let a = c.args in
    (omega arith, omega arith, laws.ascii-block a.s.now a.i 16 (sym c.is_ascii.ensures ∙ c.if-is_ascii.true))

pub loop-k-init : goal.loop-k-init
loop-k-init c = laws.ascii-byte c.args.s.now c.args.i (omega arith) (omega arith)

pub loop-k-preserved : goal.loop-k-preserved
loop-k-preserved c = c.loop-k.invariant ∙ laws.ascii-byte c.args.s.now c.loop-k.k (omega arith) (omega arith)
