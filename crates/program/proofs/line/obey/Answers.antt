-- `obey` meets its contract: the reply, the state after it and its text.
use Rattle.std.proofs.Common.{Some, refl}
use Rattle.program.proofs.Replying.{given-reply}
use Rattle.program.proofs.line.obey.Goals as goal

pub returns : goal.returns
returns c =
    λ unlent.
    given-reply c.args.s c.args.line.now (Some c.args.c) c.args.outbox.now c.requires.0 refl c.obey_lent-r.ensures c.after_reply.ensures c.say_reply.ensures unlent
