-- Each link that is up adds its addresses, which are few.
use mathlib.Core.Path.{◌∙◌, ap}
use mathlib.Core.Bool.{cond}
use mathlib.Core.List.{[], ◌++◌}
use Rattle.engine.specs.Held.{Link, link_of}
use Rattle.engine.proofs.UpAddresses as up
use Rattle.engine.proofs.LinkRows as links
use native.Mathlib.Omega.{arith}
use Rattle.engine.proofs.source.of_up_links.Goals as goal

pub loop-i-preserved : goal.loop-i-preserved
unfolding link_of
loop-i-preserved c =
    let s = c.args in
    let h = c.loop-i in
    up.gather_turn _ (links.next-is s.head.now s.links.now h.i (omega arith)) (c.add_if_up.ensures ∙ ap (λ (a : Link). h.addresses.items ++ cond a.up a.addresses []) c.link_at.ensures)
    (links.addresses-few _) h.invariant

pub returns : goal.returns
returns c =
    let s = c.args in
    let h = c.loop-i in
    up.gather_over _ (links.none_left s.head.now s.links.now h.i (omega arith)) h.invariant
