-- The link of the index loses the address and is entered again; where there is no such link, or no IPv4 address, nothing changes.
use mathlib.Core.Path.{◌∙◌}
use borrow.Author.Tests.{eq-eqb, ne_eqb}
use Rattle.engine.specs.Held.{link_of}
use Rattle.engine.specs.Links.{last_into}
use Rattle.engine.specs.Arrays.{links_in}
use Rattle.engine.specs.Changes.{LinksAfter}
use Rattle.engine.proofs.LinkRows as links
use Rattle.engine.proofs.LinkNews as news
use Rattle.engine.proofs.news.address_gone.Goals as goal

pub returns-in_default : goal.returns-in_default
returns-in_default c =
    let s = c.args in
    λ index h. links.unchanged s.head.now s.links.now c.count_of.ensures (news.gone-none index _ s.address.now (news.unheld h c.in_default.is))

pub returns-then-address-ne4 : goal.returns-then-address-ne4
returns-then-address-ne4 c =
    let s = c.args in
    λ index h. links.unchanged s.head.now s.links.now c.count_of-then-address-ne4.ensures (news.gone-other index _ s.address.now (ne_eqb _ _ c.if-address-ne4.true))

pub returns : goal.returns
unfolding link_of
returns c =
    let s = c.args in
    λ index h.
    let held = news.link h c.in-Some.is in
    news.address-gone (λ l. LinksAfter c.entered.result c.entered.new.links l) index (links_in s.head.now s.links.now) _ c.entered.ensures (news.held h c.in-Some.is) s.address.now (eq-eqb _ _ c.if-address-ne4.false)
    (λ i. record { index = held.same i; up = held.up i; addresses = (c.take_out.ensures ∙ λ j. last_into (c.number_of.ensures j) (held.addresses j)) i })
