use mathlib.Core.Path.{◌≡◌, refl, sym, ◌∙◌, ap}
use mathlib.Core.Bool.{Bool, true, false, cond, ◌&&◌}
use mathlib.Core.List.{List, [], ◌∷◌}
use Prim.Native.Nat.{ℕ, ◌<◌}
use lib.Dec.{ltb, eqb}
use borrow.Author.Tests.{ltb-true, ltb-false, eqb-true, eqb-false}
use native.Mathlib.Omega.{arith}
use Rattle.text.specs.Bytes.{agree, equal, order}
use Rattle.std.specs.Ordering.{is_eq}
use Rattle.std.specs.declared.cmp.Ordering.TheVariants.{Less, Greater}
use Rattle.engine.specs.Held.{advertised, is_less}
use Rattle.engine.specs.Arrays.{name_count}
use Rattle.engine.proofs.Tables as tables
use Rattle.engine.proofs.NameRows as names
use Rattle.engine.proofs.names.spot_of.Goals as goal

-- texts are the same where neither stands before the other
equal-is : (s t : List ℕ) → equal s t ≡ is_eq (order s t)
unfolding agree order
equal-is [] [] = refl
equal-is [] (b ∷ t) = refl
equal-is (a ∷ s) [] = refl
equal-is (a ∷ s) (b ∷ t) = first_byte (ltb a b) (ltb b a) (eqb a b) refl refl refl (equal-is s t)
  where
    first_byte : (p q r : Bool) → ltb a b ≡ p → ltb b a ≡ q → eqb a b ≡ r → equal s t ≡ is_eq (order s t) → (r && equal s t) ≡ is_eq (cond p Less (cond q Greater (order s t)))
    first_byte true q true e f g same = absurd (omega (arith, ltb-true a b e, eqb-true a b g))
    first_byte true q false e f g same = refl
    first_byte false true true e f g same = absurd (omega (arith, ltb-true b a f, eqb-true a b g))
    first_byte false true false e f g same = refl
    first_byte false false true e f g same = same
    first_byte false false false e f g same = absurd (eqb-false a b g (omega (arith, ltb-false a b e, ltb-false b a f)))

pub returns-in-Equal : goal.returns-in-Equal
returns-in-Equal c =
    let s = c.args in
    let h = c.loop-i in
    let lt : h.i < name_count s.head.now = omega (arith, c.count_of-n.ensures) in
    let o = ap (λ (t : List ℕ). order t s.name.now) (sym c.name_at.ensures) ∙ sym c.order.ensures ∙ c.in-Equal.is in
    tables.look-there advertised _ _ (names.next-is s.head.now s.numbers.now s.texts.now h.i lt) (ap is_less o) h.invariant.1 (equal-is _ s.name.now ∙ ap is_eq o)

pub returns-in-Greater : goal.returns-in-Greater
returns-in-Greater c =
    let s = c.args in
    let h = c.loop-i in
    let lt : h.i < name_count s.head.now = omega (arith, c.count_of-n.ensures) in
    let o = ap (λ (t : List ℕ). order t s.name.now) (sym c.name_at.ensures) ∙ sym c.order.ensures ∙ c.in-Greater.is in
    tables.look-before advertised _ _ (names.next-is s.head.now s.numbers.now s.texts.now h.i lt) (ap is_less o) h.invariant.1 (equal-is _ s.name.now ∙ ap is_eq o)

pub loop-i-preserved : goal.loop-i-preserved
loop-i-preserved c =
    let s = c.args in
    let h = c.loop-i in
    let lt : h.i < name_count s.head.now = omega (arith, c.count_of-n.ensures) in
    let o = ap (λ (t : List ℕ). order t s.name.now) (sym c.name_at.ensures) ∙ sym c.order.ensures ∙ c.in-Less.is in
    (omega arith, tables.look-turn advertised _ _ (names.next-is s.head.now s.numbers.now s.texts.now h.i lt) (ap is_less o) h.invariant.1)

pub returns : goal.returns
returns c =
    let s = c.args in
    let h = c.loop-i in
    let over : h.i ≡ c.count_of-n.result = omega arith in
    rw over at (tables.look-over advertised _ _ (names.none_left s.head.now s.numbers.now s.texts.now h.i (omega (arith, c.count_of-n.ensures))) h.invariant.1)
