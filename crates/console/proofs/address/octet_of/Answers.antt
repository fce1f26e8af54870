-- `octet_of` meets its contract: by the first byte.
use Rattle.std.proofs.Common.{sym, ◌∙◌}
use Rattle.console.proofs.Octets.{octet-not, octet-number}
use Rattle.console.proofs.address.octet_of.Goals as goal

pub returns-then-first-s : goal.returns-then-first-s
returns-then-first-s c = sym (octet-not c.args.s.now c.byte_at-first.ensures c.if-first-s.true)

pub returns : goal.returns
returns c = c.parse.ensures ∙ sym (octet-number c.args.s.now c.byte_at-first.ensures c.if-first-s.false)
