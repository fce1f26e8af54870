-- `part_of`: what `get` lends, twice.
use mathlib.Core.Path.{refl, ◌∙◌, ap}
use lib.ListN.{take}
use Rattle.text.proofs.Places.{behind, up_to}
use Rattle.text.proofs.white.part_of.Goals as goal

pub returns : goal.returns
returns c =
    ap (λ x. x.now) c.unwrap_or.ensures
    ∙ up_to c.unwrap_or-rest.result c.args.place.len c.get-2.result c.get-2.ensures.lookup
    ∙ ap (take c.args.place.len) (ap (λ x. x.now) c.unwrap_or-rest.ensures ∙ behind c.args.s.now c.args.place.start c.get.result _ refl c.get.ensures.lookup)
