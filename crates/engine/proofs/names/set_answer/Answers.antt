-- It is written over the row's end.
use mathlib.Core.Path.{◌≡◌}
use Prim.Native.Nat.{◌+◌, ◌-◌}
use native.Mathlib.Omega.{arith}
use Rattle.message.specs.Build.{type_max}
use Rattle.engine.specs.Arrays.{answer_place}
use Rattle.engine.proofs.NameRows as names
use Rattle.engine.proofs.names.set_answer.Goals as goal

pub returns : goal.returns
returns c =
    let k : answer_place + type_max - answer_place ≡ type_max = omega arith in
    λ len. names.answer-fixed c.args.row.now c.requires len k (omega arith) c.copy_from_slice.ensures.after
