-- `bytes::find_text`: p starts at the place and nowhere before it, or nowhere.
use Prim.Native.Nat.{◌-◌}
use mathlib.Core.Path.{◌≡◌}
use mathlib.Core.Bool.{true, false}
use lib.ListN.{length, take, drop}
use borrow.Author.Rules.{rules}
use borrow.Author.Tests.{tests}
use Rattle.std.proofs.lemmas.Iterator.{first_from_Range}
use Rattle.text.specs.Bytes.{starts_with}
use Rattle.text.proofs.Finding as laws
use Rattle.text.proofs.bytes.find_text.Goals as goal

pub returns : goal.returns
returns c =
    let s = c.args.s.now in
    let p = c.args.p.now in
    laws.index_of_text-at p s c.find.result (first_from_Range _ _ _ _ (λ i. starts_with p (take (length s - i) (drop i s)) ≡ true) (λ i. starts_with p (take (length s - i) (drop i s)) ≡ false) c.find.ensures.ran
    (λ x q k. search (rules, tests))
    (λ x q k. (search rules, search (rules, tests))))
