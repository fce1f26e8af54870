-- `lines::bare_len`: a last byte 13, and any other end.
use mathlib.Core.Path.{sym, ap}
use lib.ListN.{length}
use native.Mathlib.Omega.{arith}
use Rattle.text.proofs.FirstLine as laws
use Rattle.text.proofs.lines.bare_len.Goals as goal

pub returns-in-13 : goal.returns-in-13
returns-in-13 c = sym (ap length (laws.without-at c.args.line.now 13 (omega arith)))

pub returns-in_default : goal.returns-in_default
returns-in_default c = sym (ap length (laws.without-short c.args.line.now 13 (omega arith)))

pub returns-in_default-2 : goal.returns-in_default-2
returns-in_default-2 c = sym (ap length (laws.without-other c.args.line.now 13 (λ e. omega arith)))
