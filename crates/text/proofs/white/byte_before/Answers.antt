-- `white::byte_before`: a place counted from the end of the first e bytes, and one before their front.
use mathlib.Core.Path.{sym}
use mathlib.Core.List.{reverse}
use lib.ListN.{take, get_or-eq_default}
use native.Mathlib.Omega.{arith}
use Rattle.text.proofs.Trimming as laws
use Rattle.text.proofs.white.byte_before.Goals as goal

pub returns-then-k-e : goal.returns-then-k-e
returns-then-k-e c =
    let a = c.args in
    sym (laws.back_at a.s.now a.k a.e (omega arith) (omega arith))

pub returns-else-k-e : goal.returns-else-k-e
returns-else-k-e c =
    let a = c.args in
    sym (get_or-eq_default (reverse (take a.e a.s.now)) 0 (omega (arith, laws.back_length a.s.now a.e (omega arith))))
