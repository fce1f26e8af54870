-- `buffer::put`: each way of writing puts a text that fits.
use native.Mathlib.Omega.{arith}
use Rattle.text.proofs.buffer.put.Goals as goal

pub returns-then-text-lt16 : goal.returns-then-text-lt16
returns-then-text-lt16 c = record { fitting = λ _. c.put_bytes.ensures; otherwise = λ h. absurd (omega arith) }

pub returns : goal.returns
returns c = record { fitting = λ _. c.put_blocks.ensures; otherwise = λ h. absurd (omega arith) }
