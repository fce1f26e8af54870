-- One run behind the other.
use Rattle.std.proofs.Common.{refl}
use Rattle.engine.proofs.Sending.{both}
use Rattle.engine.proofs.salvo.refresh_on_all.Goals as goal

pub returns : goal.returns
returns c = both c.requires c.names_on_all-k.ensures c.searches_on_all.ensures refl
