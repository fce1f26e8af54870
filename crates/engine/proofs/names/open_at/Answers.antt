-- The parts that come back are row i with another reply and answer type.
use native.Mathlib.Omega.{arith}
use Rattle.engine.proofs.NameRows as names
use Rattle.engine.proofs.names.open_at.Goals as goal

pub returns : goal.returns
returns c =
    let s = c.args in
    let row = names.active_row s.i s.numbers.now s.texts.now c.set_active.new.row c.set_answer.new.row s.reply
    (omega arith) (omega arith) (omega arith) c.set_active.ensures (c.set_answer.ensures s.len)
    in
    λ n h g. names.put-active n s.i s.numbers.now s.texts.now (omega arith) (omega arith) _ _ h g row
