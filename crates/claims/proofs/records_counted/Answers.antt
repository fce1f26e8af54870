-- The engine's laws: the count, the bytes of a record, and at most 120 of them.
use mathlib.Core.Path.{◌∙◌, sym}
use native.Mathlib.Omega.{arith}
use Rattle.engine.specs.Records.{records}
use Rattle.engine.specs.Arrays.{held}
use Rattle.engine.proofs.RecordCount.{count-is, need-is}
use Rattle.engine.proofs.RecordSize.{layout-length}
use Rattle.engine.proofs.Bound.{records-bound, held-few}
use Rattle.claims.proofs.records_counted.Goals as goal

pub returns : goal.returns
returns c = (
  λ h call.
      (sym (count-is h.context h.advertisements call), need-is h.context h.advertisements call ∙ sym (layout-length (records h.context h.advertisements call))),
  λ e call.
      omega (arith, need-is (held e).context (held e).advertisements call, records-bound (held e).context (held e).advertisements (held-few e) call),
)
