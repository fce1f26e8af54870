-- The bytes of the byebyes, if the name is held.
use mathlib.Core.Path.{sym, ◌∙◌, ap}
use mathlib.Core.Bool.{Bool, cond}
use mathlib.Core.List.{[]}
use Prim.Native.Nat.{◌*◌}
use lib.ListN.{length}
use Rattle.engine.specs.Sizes.{record_size}
use Rattle.engine.specs.Links.{up_addresses}
use Rattle.engine.specs.Need.{record_count, need}
use Rattle.engine.specs.Engine.{names_of}
use Rattle.engine.specs.Arrays.{links_in, held}
use Rattle.engine.proofs.need.of_byebye.Goals as goal

pub returns-then-is_held : goal.returns-then-is_held
unfolding need record_count names_of held
returns-then-is_held c searches numbers texts name room e =
    let a = c.args in
    (c.of_announcement.ensures searches [] [] [] [] [] room).0
    ∙ ap (λ (b : Bool). record_size * cond b (length (up_addresses (links_in a.head.now a.links.now))) 0) (sym c.if-is_held.true ∙ e)

pub returns : goal.returns
unfolding need record_count names_of held
returns c searches numbers texts name room e =
    let a = c.args in
    ap (λ (b : Bool). record_size * cond b (length (up_addresses (links_in a.head.now a.links.now))) 0) (sym c.if-is_held.false ∙ e)
