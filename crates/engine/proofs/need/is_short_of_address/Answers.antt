-- Where the address is not stored, the need is 0, and no outbox is shorter.
use mathlib.Core.Path.{sym, ◌∙◌, ap}
use mathlib.Core.Bool.{Bool, cond, ◌&&◌}
use Prim.Native.Nat.{ℕ, ◌+◌, ◌*◌}
use native.Mathlib.Omega.{arith}
use borrow.Author.Tests.{le-ltb}
use lib.Dec.{ltb}
use lib.ListN.{length}
use Rattle.engine.specs.Sizes.{record_size}
use Rattle.engine.specs.Links.{any_up, link_at}
use Rattle.engine.specs.Need.{searches_count, record_count, need}
use Rattle.engine.specs.Engine.{names_of}
use Rattle.engine.specs.Arrays.{links_in, searches_in, names_in, held}
use Rattle.engine.proofs.need.is_short_of_address.Goals as goal

pub returns-then-storing : goal.returns-then-storing
returns-then-storing c numbers texts e = ap (ltb c.args.room) (c.of_new_address.ensures numbers texts c.args.room)

pub returns : goal.returns
unfolding need record_count names_of held
returns c numbers texts e =
    let a = c.args in
    let n = length (names_in a.head.now numbers texts) + searches_count (searches_in a.head.now a.searches.now) in
    sym (le-ltb a.room 0 (omega arith)) ∙ ap (λ (b : Bool). ltb a.room (record_size * cond (b && any_up (link_at a.index (links_in a.head.now a.links.now))) n 0)) (sym c.if-storing.false ∙ e)
