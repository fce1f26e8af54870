-- The rows behind it were moved down.
use mathlib.Core.Path.{◌∙◌, ap}
use Prim.Native.Nat.{◌+◌, ◌*◌}
use native.Mathlib.Omega.{arith}
use Rattle.std.specs.List.{copy_within}
use Rattle.engine.specs.Arrays.{numbers_width, texts_width}
use Rattle.engine.proofs.NameRows as names
use Rattle.engine.proofs.names.taken_out.Goals as goal

pub returns : goal.returns
returns c =
    let s = c.args in
    names.taken_out s.n s.i s.numbers.now s.texts.now (omega arith) (omega arith) (omega arith) (omega arith)
    (c.down.ensures ∙ ap (λ k. copy_within s.numbers.now (numbers_width * s.i + numbers_width) k (numbers_width * s.i)) (omega arith))
    (c.down-2.ensures ∙ ap (λ k. copy_within s.texts.now (texts_width * s.i + texts_width) k (texts_width * s.i)) (omega arith))
