-- The addresses are looked through for the number of the bytes.
use mathlib.Core.Path.{◌∙◌, ap}
use mathlib.Core.Bool.{Bool, not, ◌&&◌}
use Rattle.engine.specs.Links.{is_v4, contains}
use Rattle.engine.proofs.AddressLists as addresses
use Rattle.engine.proofs.news.is_new.Goals as goal

pub returns : goal.returns
returns c =
    let here = c.contains.ensures.value ∙ addresses.contains-any c.number_of.result c.deref.result.now ∙ (λ i. contains (c.number_of.ensures i) (c.deref.ensures.0 i)) in
    ap (λ (b : Bool). is_v4 c.args.address.now && not b) here
