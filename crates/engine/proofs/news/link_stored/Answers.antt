-- The link of the index follows its news and is entered again; news that is not of a multicast link changes nothing.
use mathlib.Core.Path.{sym, ◌∙◌, ap}
use Rattle.engine.specs.Held.{link_of}
use Rattle.engine.specs.Links.{addresses_of}
use Rattle.engine.specs.Arrays.{links_in}
use Rattle.engine.specs.Changes.{LinksAfter}
use Rattle.engine.proofs.LinkRows as links
use Rattle.engine.proofs.LinkNews as news
use Rattle.engine.proofs.news.link_stored.Goals as goal

pub returns-then-not-is_multicast : goal.returns-then-not-is_multicast
returns-then-not-is_multicast c =
    let s = c.args in
    λ h room. links.unchanged s.head.now s.links.now c.count_of.ensures (news.link_quiet s.index _ s.flags (sym c.is_multicast.ensures ∙ c.if-not-is_multicast.true))

pub returns-in-Some : goal.returns-in-Some
unfolding link_of
returns-in-Some c =
    let s = c.args in
    λ h room.
    let held = news.link h c.in-Some.is in
    news.link_stored (λ l. LinksAfter c.entered.result c.entered.new.links l) s.index (links_in s.head.now s.links.now) _ c.entered.ensures s.flags (sym c.is_multicast.ensures ∙ c.if-not-is_multicast.false)
    (λ i. record { index = held.same i; up = c.is_up-up.ensures i; addresses = held.addresses i }) room

pub returns-in-None : goal.returns-in-None
unfolding link_of addresses_of
returns-in-None c =
    let s = c.args in
    λ h room.
    let none = c.new.ensures ∙ sym (ap addresses_of (news.no_link h c.in-None.is)) in
    news.link_stored (λ l. LinksAfter c.entered-in-None.result c.entered-in-None.new.links l) s.index (links_in s.head.now s.links.now) _ c.entered-in-None.ensures s.flags (sym c.is_multicast.ensures ∙ c.if-not-is_multicast.false)
    (λ i. record { index = s.index; up = c.is_up-up.ensures i; addresses = none i }) room
