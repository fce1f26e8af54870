-- The bytes of a record for each address on an up link.
use mathlib.Core.Path.{ap}
use Prim.Native.Nat.{ℕ, ◌*◌}
use Rattle.engine.specs.Sizes.{record_size}
use Rattle.engine.specs.Need.{record_count, need}
use Rattle.engine.specs.Arrays.{held}
use Rattle.engine.proofs.need.of_announcement.Goals as goal

pub returns : goal.returns
unfolding need record_count held
returns c searches numbers texts name service location room =
    let e = ap (λ (k : ℕ). record_size * k) c.up_count.ensures.0 in
    (e, e)
