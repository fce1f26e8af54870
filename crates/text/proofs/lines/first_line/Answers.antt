-- `lines::first_line`: a text without byte 10 is one line, any other is cut behind its first byte 10.
use Rattle.std.specs.Prelude.{◌≡◌, ◌<◌, length, IfSome, IfNone}
use mathlib.Core.Path.{sym, subst}
use Rattle.text.specs.Bytes.{index_of}
use native.Mathlib.Omega.{arith}
use Rattle.text.proofs.FirstLine as laws
use Rattle.text.proofs.lines.first_line.Goals as goal

pub returns-in-None : goal.returns-in-None
returns-in-None c =
    let n = subst (λ r. IfNone r (index_of 10 c.args.s.now ≡ length c.args.s.now)) c.in-None.is c.find.ensures.none in
    laws.no_end c.args.s.now (sym n) (omega arith)

pub returns-in-Some : goal.returns-in-Some
returns-in-Some c =
    let e = subst (λ r. IfSome r (λ i. (i ≡ index_of 10 c.args.s.now) × (i < length c.args.s.now))) c.in-Some.is c.find.ensures.some in
    laws.at-end c.args.s.now e.0 e.1 c.bare_len.ensures

pub returns-in-10 : goal.returns-in-10
returns-in-10 c = laws.at-once c.args.s.now (omega arith) c.in-10.is

pub returns-in-13 : goal.returns-in-13
returns-in-13 c = laws.at-second c.args.s.now (omega arith) c.in-13.is c.if-second-eq10.true
