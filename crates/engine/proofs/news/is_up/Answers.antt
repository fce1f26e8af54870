-- A link that is not held is not up.
use mathlib.Core.Path.{sym, ap}
use Rattle.engine.specs.Links.{any_up}
use Rattle.engine.proofs.LinkNews as news
use Rattle.engine.proofs.news.is_up.Goals as goal

pub returns-in-None : goal.returns-in-None
unfolding any_up
returns-in-None c = λ index links h. sym (ap any_up (news.no_link h c.in-None.is))
