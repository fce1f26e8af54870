-- Advertisements plus searches, times the link's addresses, if it turns up.
use mathlib.Core.Path.{sym, ◌∙◌, ap}
use mathlib.Core.Bool.{Bool, cond}
use Prim.Native.Nat.{ℕ, ◌+◌, ◌*◌}
use lib.ListN.{length}
use Rattle.engine.specs.Sizes.{record_size}
use Rattle.engine.specs.Links.{addresses_of, link_at}
use Rattle.engine.specs.Need.{searches_count, record_count, need}
use Rattle.engine.specs.Engine.{names_of}
use Rattle.engine.specs.Arrays.{links_in, searches_in, names_in, held}
use Rattle.engine.proofs.NameRows.{names-length}
use Rattle.engine.proofs.need.of_new_link.Goals as goal

pub returns-then-turns_up : goal.returns-then-turns_up
unfolding need record_count names_of held
returns-then-turns_up c numbers texts outcome room =
    let a = c.args in
    let found = c.lookup-held.ensures in
    let turns = sym (c.turns_up.ensures a.index (links_in a.head.now a.links.now) found) ∙ c.if-turns_up.true in
    let names = ap (λ (k : ℕ). k + searches_count (searches_in a.head.now a.searches.now)) (sym (names-length a.head.now numbers texts)) in
    λ i. record_size * cond (sym turns i) ((c.entry_count-n.ensures.0 ∙ names) i * ap length (c.addresses_of.ensures a.index (links_in a.head.now a.links.now) found) i) 0

pub returns : goal.returns
unfolding need record_count names_of held
returns c numbers texts outcome room =
    let a = c.args in
    let links = links_in a.head.now a.links.now in
    let turns = sym (c.turns_up.ensures a.index links c.lookup-held.ensures) ∙ c.if-turns_up.false in
    let n = length (names_in a.head.now numbers texts) + searches_count (searches_in a.head.now a.searches.now) in
    ap (λ (b : Bool). record_size * cond b (n * length (addresses_of (link_at a.index links))) 0) (sym turns)
