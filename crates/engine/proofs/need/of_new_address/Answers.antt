-- Advertisements plus searches, if the address is stored on an up link.
use mathlib.Core.Path.{◌≡◌, sym, ◌∙◌, ap}
use mathlib.Core.Bool.{Bool, true, false, cond, ◌&&◌}
use Prim.Native.Nat.{ℕ, ◌+◌, ◌*◌}
use lib.ListN.{length}
use Rattle.engine.specs.Sizes.{record_size}
use Rattle.engine.specs.Links.{any_up, link_at, stores}
use Rattle.engine.specs.Need.{searches_count, record_count, need}
use Rattle.engine.specs.Engine.{names_of}
use Rattle.engine.specs.Arrays.{links_in, searches_in, names_in, held}
use Rattle.engine.proofs.NameRows.{names-length}
use Rattle.engine.proofs.need.of_new_address.Goals as goal

pub returns-then-is_stored-is_up : goal.returns-then-is_stored-is_up
unfolding need record_count names_of held
returns-then-is_stored-is_up c numbers texts room =
    let a = c.args in
    let links = links_in a.head.now a.links.now in
    let found = c.lookup-held.ensures in
    let sends : (stores a.index a.address.now links && any_up (link_at a.index links)) ≡ true =
    (λ i. sym (c.is_stored.ensures a.index links found) i && sym (c.is_up.ensures a.index links found) i) ∙ c.if-is_stored-is_up.true in
    let names = ap (λ (k : ℕ). k + searches_count (searches_in a.head.now a.searches.now)) (sym (names-length a.head.now numbers texts)) in
    λ i. record_size * cond (sym sends i) ((c.entry_count.ensures.0 ∙ names) i) 0

pub returns : goal.returns
unfolding need record_count names_of held
returns c numbers texts room =
    let a = c.args in
    let links = links_in a.head.now a.links.now in
    let found = c.lookup-held.ensures in
    let sends : (stores a.index a.address.now links && any_up (link_at a.index links)) ≡ false =
    (λ i. sym (c.is_stored.ensures a.index links found) i && sym (c.is_up.ensures a.index links found) i) ∙ c.if-is_stored-is_up.false in
    let n = length (names_in a.head.now numbers texts) + searches_count (searches_in a.head.now a.searches.now) in
    ap (λ (b : Bool). record_size * cond b n 0) (sym sends)
