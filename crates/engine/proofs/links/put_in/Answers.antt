-- The rows from i on move up, and row i is filled.
use mathlib.Core.Path.{◌≡◌, ◌∙◌}
use Prim.Native.Nat.{◌+◌, ◌-◌, ◌*◌}
use native.Mathlib.Omega.{arith}
use lib.ListN.{length-drop}
use lib.Seq.{length-take-le}
use Rattle.engine.specs.Arrays.{link_width}
use Rattle.engine.proofs.LinkRows as links
use Rattle.engine.proofs.links.put_in.Goals as goal

pub returns : goal.returns
returns c =
    let s = c.args in
    let at = link_width * s.i in
    let k : at + link_width - at ≡ link_width = omega arith in
    links.put_in s.n s.i s.links.now (omega arith) c.requires.0 c.requires.1 c.up.ensures
    (links.over-zeros s.i (omega arith) k (length-take-le _ _ (omega (arith, length-drop at c.up.new.l)) ∙ k) (c.fill.ensures.after (λ y e. e)) c.filled.ensures)
