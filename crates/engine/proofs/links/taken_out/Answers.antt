-- The rows behind row i move down.
use mathlib.Core.Path.{◌∙◌, ap}
use Prim.Native.Nat.{◌+◌, ◌*◌}
use native.Mathlib.Omega.{arith}
use Rattle.std.specs.List.{copy_within}
use Rattle.engine.specs.Arrays.{link_width}
use Rattle.engine.proofs.LinkRows as links
use Rattle.engine.proofs.links.taken_out.Goals as goal

pub returns : goal.returns
returns c =
    let s = c.args in
    links.taken_out s.n s.i s.links.now (omega arith) c.requires.0 c.requires.1
    (c.down.ensures ∙ ap (λ k. copy_within s.links.now (link_width * s.i + link_width) k (link_width * s.i)) (omega arith))
