-- `unheard` meets its contract: `?`, and the session goes on.
use Rattle.text.specs.Bytes.{bytes}
use Rattle.program.proofs.Replying.{given-unread}
use Rattle.program.proofs.line.unheard.Goals as goal

pub returns : goal.returns
unfolding bytes
returns c = λ e outbox. given-unread c.args.s e outbox c.with_lent.ensures c.say.ensures
