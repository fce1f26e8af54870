-- `lend` meets its contract: before an engine has begun, and then.
use Rattle.text.specs.Bytes.{bytes}
use Rattle.program.proofs.Replying.{given-lend-before, given-lend}
use Rattle.program.proofs.line.lend.Goals as goal

pub returns-in_default : goal.returns-in_default
returns-in_default c = λ e outbox. given-lend-before c.args.s c.args.n e outbox c.in_default.is (c.unheard.ensures e outbox)

pub returns : goal.returns
unfolding bytes
returns c = λ e outbox. given-lend c.args.s c.args.n e outbox c.in-Some.is c.with_lent.ensures c.say.ensures
