-- `parse`: one law for each answer, from the first line.
use mathlib.Core.Path.{◌≡◌, refl, sym, ◌∙◌}
use mathlib.Core.Bool.{Bool, false}
use mathlib.Core.List.{List}
use Prim.Native.Nat.{ℕ}
use borrow.Author.Tests.{eqb-false}
use lib.Dec.{eqb}
use lib.ListN.{length}
use lib.Seq.{length-take-le}
use Rattle.text.specs.Bytes.{bytes}
use Rattle.message.specs.Build.{notify_line, response_line, search_line}
use Rattle.message.proofs.Reading.{not-encoded, first-inside, parsed-notify, parsed-response, parsed-search, parsed-none}
use Rattle.message.proofs.parse.Goals as goal

-- a datagram that was found not empty has a byte
has_byte : (s : List ℕ) {t : Bool} → t ≡ eqb (length s) 0 → t ≡ false → length s ≡ 0 → ⊥
has_byte s e f = eqb-false _ 0 (sym e ∙ f)

pub returns-then-not-is_utf8 : goal.returns-then-not-is_utf8
returns-then-not-is_utf8 c = not-encoded c.args.buf.now (has_byte c.args.buf.now c.is_empty.ensures c.if-is_empty.false) c.is_utf8.ensures (c.if-not-is_utf8.true)

pub slice_bounds-first-end : goal.slice_bounds-first-end
slice_bounds-first-end c = sym (length-take-le _ _ (first-inside c.args.buf.now (has_byte c.args.buf.now c.is_empty.ensures c.if-is_empty.false) c.is_utf8.ensures (c.if-not-is_utf8.false) c.first_line-line.ensures refl))

pub returns-then-equal : goal.returns-then-equal
unfolding bytes notify_line response_line search_line
returns-then-equal c =
    parsed-notify c.args.buf.now (has_byte c.args.buf.now c.is_empty.ensures c.if-is_empty.false) c.is_utf8.ensures (c.if-not-is_utf8.false) c.first_line-line.ensures refl
    c.equal.ensures c.if-equal.true c.notify_from.ensures

pub returns-then-equal-2 : goal.returns-then-equal-2
unfolding bytes notify_line response_line search_line
returns-then-equal-2 c =
    parsed-response c.args.buf.now (has_byte c.args.buf.now c.is_empty.ensures c.if-is_empty.false) c.is_utf8.ensures (c.if-not-is_utf8.false) c.first_line-line.ensures refl
    c.equal.ensures c.if-equal.false c.equal-2.ensures c.if-equal-2.true c.response_from.ensures

pub returns-then-equal-3 : goal.returns-then-equal-3
unfolding bytes notify_line response_line search_line
returns-then-equal-3 c =
    parsed-search c.args.buf.now (has_byte c.args.buf.now c.is_empty.ensures c.if-is_empty.false) c.is_utf8.ensures (c.if-not-is_utf8.false) c.first_line-line.ensures refl
    c.equal.ensures c.if-equal.false c.equal-2.ensures c.if-equal-2.false c.equal-3.ensures c.if-equal-3.true
    c.search_from.ensures

pub returns : goal.returns
unfolding bytes notify_line response_line search_line
returns c =
    parsed-none c.args.buf.now (has_byte c.args.buf.now c.is_empty.ensures c.if-is_empty.false) c.is_utf8.ensures (c.if-not-is_utf8.false) c.first_line-line.ensures refl
    c.equal.ensures c.if-equal.false c.equal-2.ensures c.if-equal-2.false c.equal-3.ensures c.if-equal-3.false
