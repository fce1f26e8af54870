-- The count of the mask's ones is the number of subscriptions that match.
use mathlib.Core.Path.{◌∙◌, ap}
use lib.Count.{ones}
use Rattle.engine.specs.Arrays.{searches_in}
use Rattle.engine.proofs.Masks.{told-ones}
use Rattle.engine.proofs.subscription.told_of.Goals as goal

pub returns : goal.returns
returns c =
    let s = c.args in
    record { mask = c.mask_of-mask.ensures; told = ap ones c.mask_of-mask.ensures ∙ told-ones s.service.now (searches_in s.head.now s.searches.now) }
