use mathlib.Core.Path.{sym}
use native.Mathlib.Omega.{arith}
use Prim.Native.Nat.{◌-◌}
use Rattle.text.proofs.Finding as laws
use Rattle.text.proofs.bytes.find_last.Goals as goal

pub returns-then-s-i-clause-some : goal.returns-then-s-i-clause-some
returns-then-s-i-clause-some c =
    let l = c.loop-i in
    (sym (laws.last_index_of-is c.args.b c.args.s.now (l.i - 1) (omega arith) c.if-s-i.true (λ k g j e. l.invariant k (omega arith) j e)), omega arith)

pub returns-clause-none : goal.returns-clause-none
returns-clause-none c = laws.last_index_of-none c.args.b c.args.s.now (λ k g j e. c.loop-i.invariant k (omega arith) j e)
