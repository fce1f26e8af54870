use Prim.Native.Nat.{ℕ}
use mathlib.Core.Path.{◌≡◌, sym, ◌∙◌}
use borrow.Author.Tests.{ne_eqb}
use borrow.Author.Rules.{rules}
use borrow.Author.Tests.{tests}
use Rattle.std.proofs.lemmas.Iterator.{cases_from_all, YieldsList-from_zip, YieldsList-from_slice}
use Rattle.text.specs.Bytes.{upper}
use Rattle.text.proofs.Comparing.{agree-lengths, upper_all}
use Rattle.text.proofs.bytes.equal_upper.Goals as goal

pub returns-then-s-t : goal.returns-then-s-t
returns-then-s-t c =
    let s = c.args.s.now in
    let t = c.args.t.now in
    upper_all s t c.if-s-t.true c.all.result (cases_from_all c.all.new.self _ _ (λ (p : ℕ × ℕ). upper p.0 ≡ p.1) (λ (p : ℕ × ℕ). upper p.0 ≡ p.1 → ⊥) c.all.ensures.ran
    (YieldsList-from_zip (YieldsList-from_slice s cc) (YieldsList-from_slice t cc)) (λ x q k. search (rules, tests)) (λ x q k. search (rules, tests)))

pub returns-else-s-t : goal.returns-else-s-t
returns-else-s-t c = ne_eqb _ _ c.if-s-t.false ∙ sym (agree-lengths upper c.args.s.now c.args.t.now c.if-s-t.false)
