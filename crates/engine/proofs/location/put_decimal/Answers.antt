-- Each test fixes how many digits the definition has; the part of the array that is lent computes to them.
use native.Mathlib.Omega.{arith}
use Rattle.text.proofs.Writing.{text}
use Rattle.engine.proofs.Rewriting.{decimal-one, decimal-two, decimal-three}
use Rattle.engine.proofs.location.put_decimal.Goals as goal

pub returns-then-n-lt10 : goal.returns-then-n-lt10
returns-then-n-lt10 c = record { put = text c.put.ensures (decimal-one _ c.if-n-lt10.true); upper_bound = omega (arith, c.put.ensures.place) }

pub returns-then-n-lt100 : goal.returns-then-n-lt100
returns-then-n-lt100 c = record { put = text c.put-then-n-lt100.ensures (decimal-two _ c.if-n-lt10.false c.if-n-lt100.true); upper_bound = omega (arith, c.put-then-n-lt100.ensures.place) }

pub returns : goal.returns
returns c = record { put = text c.put-2.ensures (decimal-three _ c.if-n-lt100.false); upper_bound = omega (arith, c.put-2.ensures.place) }
