-- `white::trim`: an all-blank text, and any other.
use lib.ListN.{length, drop, take}
use mathlib.Core.Path.{refl}
use Prim.Native.Nat.{◌-◌}
use native.Mathlib.Omega.{arith}
use Rattle.text.proofs.Trimming as laws
use Rattle.text.proofs.white.trim.Goals as goal

pub returns-then-s-start : goal.returns-then-s-start
returns-then-s-start c = laws.trim_blank c.args.s.now c.leading_of-start.ensures c.if-s-start.true

pub overflow_sub-result : goal.overflow_sub-result
overflow_sub-result c =
    let s = c.args.s.now in
    let i = c.leading_of-start.result in
    omega (arith, c.trailing_of.ensures, laws.trailing_le (take (length s - i) (drop i s)))

pub returns : goal.returns
returns c = laws.trim_part c.args.s.now c.leading_of-start.ensures (omega arith) refl c.trailing_of.ensures
