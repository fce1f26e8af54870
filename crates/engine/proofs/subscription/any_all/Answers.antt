-- Each row is put to the test.
use mathlib.Core.Path.{refl, ◌∙◌}
use native.Mathlib.Omega.{arith}
use borrow.Author.Rules.{rules}
use Rattle.std.proofs.lemmas.Iterator.{YieldsList-from_range}
use Rattle.std.proofs.lemmas.Iterator.Search.{any_from_yields_List}
use Rattle.text.specs.Bytes.{equal}
use Rattle.engine.specs.Target.{ssdp_all}
use Rattle.engine.specs.Arrays.{search_at}
use Rattle.engine.proofs.Masks as masks
use Rattle.engine.proofs.subscription.any_all.Goals as goal

pub returns : goal.returns
returns c =
    let s = c.args in
    let n = c.count_of-n in
    any_from_yields_List (λ i. equal (search_at i s.searches.now) ssdp_all) _ _ c.any.result c.any.ensures.ran (YieldsList-from_range 0 n.result n.result refl (omega arith)) (λ i b q k. search rules)
    ∙ masks.any-of s.head.now s.searches.now n.ensures
