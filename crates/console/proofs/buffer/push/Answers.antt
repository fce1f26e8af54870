-- `push` meets its contract: a byte goes where there is room, and is left out where there is none.
use Rattle.console.proofs.Appending as laws
use Rattle.console.proofs.buffer.push.Goals as goal

pub returns-then-len-buf : goal.returns-then-len-buf
returns-then-len-buf c = laws.pushed c.args.buf.now c.args.len c.args.byte c.if-len-buf.true

pub returns : goal.returns
returns c = laws.full c.args.buf.now c.args.len c.args.byte c.if-len-buf.false
