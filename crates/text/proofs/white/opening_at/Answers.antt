-- `white::opening_at`: a byte that is a character by itself, and the three tests of the bytes from i on.
use Prim.Native.Nat.{◌+◌}
use mathlib.Core.Path.{refl, sym, ◌∙◌}
use lib.ListN.{get_or}
use native.Mathlib.Omega.{arith}
use Rattle.text.specs.White.{opening}
use Rattle.text.proofs.Trimming as laws
use Rattle.text.proofs.white.opening_at.Goals as goal

pub returns-then-a-le127 : goal.returns-then-a-le127
returns-then-a-le127 c =
    let s = c.args.s.now in
    let i = c.args.i in
    c.ascii_width.ensures ∙ laws.opening-ascii (get_or s i 0) (get_or s (i + 1) 0) (get_or s (i + 2) 0) (omega arith) ∙ sym (laws.at_drop opening s i)

pub returns : goal.returns
returns c =
    let s = c.args.s.now in
    let i = c.args.i in
    laws.three-of opening {a = get_or s i 0}
    (laws.widths c.is_white1.ensures c.is_white2.ensures c.is_white3.ensures c.width_of.ensures)
    refl c.byte_at-b.ensures c.byte_at-c.ensures
    ∙ sym (laws.at_drop opening s i)
