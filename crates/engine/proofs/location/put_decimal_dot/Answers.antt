-- The two texts in a row.
use native.Mathlib.Omega.{arith}
use Rattle.text.proofs.Writing.{behind}
use Rattle.engine.proofs.location.put_decimal_dot.Goals as goal

pub returns : goal.returns
returns c = record { put = behind (omega (arith, c.requires)) c.put_decimal-a.ensures.put c.put.ensures; upper_bound = omega (arith, c.put.ensures.place, c.put_decimal-a.ensures.upper_bound) }
