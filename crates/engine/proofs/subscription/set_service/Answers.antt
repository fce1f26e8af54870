-- The length stands first and the type, which fits, behind it.
use Rattle.engine.proofs.SearchRows.{type_put}
use Rattle.engine.proofs.subscription.set_service.Goals as goal

pub returns : goal.returns
returns c =
    type_put c.args.row.now c.args.service.now c.requires.0 c.requires.1 c.put.ensures
