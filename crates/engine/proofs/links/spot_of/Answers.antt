use mathlib.Core.Path.{◌≡◌, refl, ap, sym, ◌∙◌}
use mathlib.Core.Bool.{Bool, true, false, cond}
use Prim.Native.Nat.{ℕ}
use lib.Dec.{ltb, eqb}
use borrow.Author.Tests.{ltb-true, eqb-true}
use Rattle.std.specs.Ordering.{nat_cmp, is_eq}
use Rattle.std.specs.declared.cmp.Ordering.TheVariants.{Less, Equal, Greater}
use Rattle.engine.specs.Held.{by_index, is_less}
use Rattle.engine.proofs.Tables as tables
use Rattle.engine.proofs.LinkRows as links
use native.Mathlib.Omega.{arith}
use Rattle.engine.proofs.links.spot_of.Goals as goal

-- the definition's tests of two indices by what the library's `cmp` answers
less-is : (x y : ℕ) → ltb x y ≡ is_less (nat_cmp x y)
less-is x y = tested (ltb x y) (eqb x y)
  where
    tested : (p q : Bool) → p ≡ is_less (cond p Less (cond q Equal Greater))
    tested true q = refl
    tested false true = refl
    tested false false = refl

same-is : (x y : ℕ) → eqb x y ≡ is_eq (nat_cmp x y)
same-is x y = tested (ltb x y) (eqb x y) refl refl
  where
    tested : (p q : Bool) → ltb x y ≡ p → eqb x y ≡ q → q ≡ is_eq (cond p Less (cond q Equal Greater))
    tested true true e f = absurd (omega (arith, ltb-true x y e, eqb-true x y f))
    tested true false e f = refl
    tested false true e f = refl
    tested false false e f = refl

pub returns-in-Equal : goal.returns-in-Equal
returns-in-Equal c =
    let s = c.args in
    let h = c.loop-i in
    let o = ap (λ (k : ℕ). nat_cmp k s.index) (sym c.index_at.ensures) ∙ sym c.in-Equal.ensures in
    tables.look-there by_index _ _ (links.next-is s.head.now s.links.now h.i (omega arith)) (less-is _ s.index ∙ ap is_less o) h.invariant.1 (same-is _ s.index ∙ ap is_eq o)

pub returns-in-Greater : goal.returns-in-Greater
returns-in-Greater c =
    let s = c.args in
    let h = c.loop-i in
    let o = ap (λ (k : ℕ). nat_cmp k s.index) (sym c.index_at.ensures) ∙ sym c.in-Greater.ensures in
    tables.look-before by_index _ _ (links.next-is s.head.now s.links.now h.i (omega arith)) (less-is _ s.index ∙ ap is_less o) h.invariant.1 (same-is _ s.index ∙ ap is_eq o)

pub loop-i-preserved : goal.loop-i-preserved
loop-i-preserved c =
    let s = c.args in
    let h = c.loop-i in
    let o = ap (λ (k : ℕ). nat_cmp k s.index) (sym c.index_at.ensures) ∙ sym c.in-Less.ensures in
    (h.invariant.0, tables.look-turn by_index _ _ (links.next-is s.head.now s.links.now h.i (omega arith)) (less-is _ s.index ∙ ap is_less o) h.invariant.1)

pub returns : goal.returns
returns c =
    let s = c.args in
    let h = c.loop-i in
    let over : h.i ≡ c.count_of-n.result = omega arith in
    rw over at (tables.look-over by_index _ _ (links.none_left s.head.now s.links.now h.i (omega arith)) h.invariant.1)
