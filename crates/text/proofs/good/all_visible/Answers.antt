use mathlib.Core.Path.{sym, ◌∙◌, ap}
use mathlib.Core.Bool.{Bool, ◌&&◌}
use Prim.Native.Nat.{◌+◌}
use lib.ListN.{drop}
use native.Mathlib.Omega.{arith}
use Rattle.text.specs.Range.{every}
use Rattle.text.specs.Good.{visible}
use Rattle.text.proofs.Every as laws
use Rattle.text.proofs.good.all_visible.Goals as goal

pub loop-b-preserved : goal.loop-b-preserved
loop-b-preserved c =
    let l = c.loop-b in
    let s = c.args.s.now in
    ap (λ (t : Bool). l.all && t && every visible (drop (l.b-index + 1) s)) c.is_ascii_graphic-all.ensures.value
    ∙ sym (laws.every-turn visible s l.b-index l.all (omega arith)) ∙ l.invariant

pub returns : goal.returns
returns c = let l = c.loop-b in sym (laws.every-end visible c.args.s.now l.b-index l.all (omega arith)) ∙ l.invariant
