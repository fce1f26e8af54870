-- A link that is not held has no addresses.
use mathlib.Core.Path.{sym, ap}
use Rattle.engine.specs.Links.{addresses_of}
use Rattle.engine.proofs.LinkNews as news
use Rattle.engine.proofs.news.addresses_of.Goals as goal

pub returns-in-None : goal.returns-in-None
unfolding addresses_of
returns-in-None c = λ index links h. sym (ap addresses_of (news.no_link h c.in-None.is))
