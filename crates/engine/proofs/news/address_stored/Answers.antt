-- The link of the index gets the address and is entered again; where the address is not to be stored nothing changes.
use mathlib.Core.Path.{sym, ◌∙◌}
use mathlib.Core.List.{[], ◌∷◌, ◌++◌}
use Rattle.engine.specs.Held.{link_of}
use Rattle.engine.specs.Arrays.{links_in}
use Rattle.engine.specs.Changes.{LinksAfter}
use Rattle.engine.proofs.LinkRows as links
use Rattle.engine.proofs.LinkNews as news
use Rattle.engine.proofs.news.address_stored.Goals as goal

pub returns-in_default : goal.returns-in_default
returns-in_default c =
    let s = c.args in
    λ index h room. links.unchanged s.head.now s.links.now c.count_of.ensures (news.address-quiet index _ s.address.now (sym (news.stored_none h s.address.now c.in_default.is)))

pub returns-then-is_new-is_full : goal.returns-then-is_new-is_full
returns-then-is_new-is_full c =
    let s = c.args in
    λ index h room.
    let stores = news.stored h c.in-Some.is s.address.now c.is_new.ensures in
    links.unchanged s.head.now s.links.now c.count_of-then-is_new-is_full.ensures (news.address-quiet index _ s.address.now (news.not_stored h c.in-Some.is s.address.now stores c.is_full.ensures.value c.is_full.ensures.fits c.if-is_new-is_full.true room))

pub returns : goal.returns
unfolding link_of
returns c =
    let s = c.args in
    λ index h room.
    let held = news.link h c.in-Some.is in
    let stores = news.stored h c.in-Some.is s.address.now c.is_new.ensures in
    news.address-stored (λ l. LinksAfter c.entered.result c.entered.new.links l) index (links_in s.head.now s.links.now) _ c.entered.ensures (news.held h c.in-Some.is) s.address.now (sym stores ∙ news.still-new _ _ c.if-is_new-is_full.false)
    (λ i. record { index = held.same i; up = held.up i; addresses = (c.push.ensures.items ∙ λ j. held.addresses j ++ c.number_of.ensures j ∷ []) i })
