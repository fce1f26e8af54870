-- The literal is the definition's text.
use Rattle.text.specs.Bytes.{bytes}
use Rattle.engine.proofs.subscription.is_all.Goals as goal

pub returns : goal.returns
unfolding bytes
returns c = c.equal.ensures
