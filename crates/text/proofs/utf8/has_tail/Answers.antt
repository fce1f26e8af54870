-- `utf8::has_tail`: as many bytes as the lead byte says, one by one, or fewer.
use native.Mathlib.Omega.{arith}
use Rattle.text.proofs.Encoding as laws
use Rattle.text.proofs.utf8.has_tail.Goals as goal

pub returns-in-0-default : goal.returns-in-0-default
returns-in-0-default c = laws.tail-none c.args.lead c.args.rest.now (omega arith)

pub returns-in-1-len1-up : goal.returns-in-1-len1-up
returns-in-1-len1-up c = laws.tail-one c.args.lead c.args.rest.now (omega arith) (omega arith) c.admits.ensures

pub returns-in-2-len2-up : goal.returns-in-2-len2-up
returns-in-2-len2-up c = laws.tail-two c.args.lead c.args.rest.now (omega arith) (omega arith) c.admits-in-2-len2-up.ensures c.continues.ensures

pub returns-in-3-len3-up : goal.returns-in-3-len3-up
returns-in-3-len3-up c = laws.tail-three c.args.lead c.args.rest.now (omega arith) (omega arith) c.admits-in-3-len3-up.ensures c.continues-in-3-len3-up.ensures c.continues-in-3-len3-up-2.ensures

pub returns-in_default : goal.returns-in_default
returns-in_default c = laws.tail-short c.args.lead c.args.rest.now (omega arith)

pub returns-in_default-2 : goal.returns-in_default-2
returns-in_default-2 c = laws.tail-short c.args.lead c.args.rest.now (omega arith)

pub returns-in_default-3 : goal.returns-in_default-3
returns-in_default-3 c = laws.tail-short c.args.lead c.args.rest.now (omega arith)
