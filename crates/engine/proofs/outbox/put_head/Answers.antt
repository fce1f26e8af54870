-- The four parts in a row.
use Rattle.std.proofs.Common.{◌≤◌, ◌++◌, length, arith}
use Rattle.text.proofs.Writing.{behind, text}
use Rattle.engine.specs.Layout.{head_of}
use Rattle.engine.proofs.outbox.put_head.Goals as goal

pub returns-clause-put : goal.returns-clause-put
unfolding head_of
returns-clause-put c =
    let a = c.args in
    let fits : a.at ≤ length a.buf.now = omega (arith, c.requires) in
    text (behind fits (behind fits (behind fits c.put-port.ensures c.put-from.ensures) c.put-size.ensures) c.put.ensures)
    (λ i. c.to_be_bytes.ensures i ++ c.to_be_bytes-2.ensures i ++ c.to_be_bytes-3.ensures i ++ c.to_be_bytes-4.ensures i)
