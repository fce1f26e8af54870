-- `white::closing_at`: a byte that is a character by itself, and the three tests of the bytes before e, read backwards.
use mathlib.Core.Path.{◌∙◌, ap}
use Prim.Native.Nat.{ℕ}
use mathlib.Core.Bool.{false}
use mathlib.Core.List.{reverse}
use lib.ListN.{get_or, take}
use native.Mathlib.Omega.{arith}
use Rattle.text.specs.White.{white_space, closing, width}
use Rattle.text.proofs.Trimming as laws
use Rattle.text.proofs.white.closing_at.Goals as goal

pub returns-then-c-le127 : goal.returns-then-c-le127
returns-then-c-le127 c =
    let t = reverse (take c.args.e c.args.s.now) in
    let e = c.byte_before-c.ensures in
    c.ascii_width.ensures
    ∙ ap (λ (x : ℕ). width (white_space x) false false) e
    ∙ laws.closing-ascii (get_or t 0 0) (get_or t 1 0) (get_or t 2 0) (omega (arith, e))

pub returns : goal.returns
returns c =
    laws.three-of closing
    (laws.widths c.is_white1.ensures c.is_white2.ensures c.is_white3.ensures c.width_of.ensures)
    c.byte_before-c.ensures c.byte_before-b.ensures c.byte_before-a.ensures
