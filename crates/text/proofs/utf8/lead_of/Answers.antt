-- `utf8::lead_of`: each arm of the match is a byte, or a range over which the rule is one computed test.
use mathlib.Core.Path.{◌≡◌, ◌∙◌}
use Prim.Native.Nat.{ℕ}
use native.Mathlib.Omega.{arith}
use Rattle.text.specs.Utf8.{lead_of, expects}
use Rattle.text.proofs.Encoding.{arm, leads}
use Rattle.text.proofs.utf8.lead_of.Goals as goal
use Rattle.text.proofs.utf8.lead_of.Goals.{in_default-via-then-b-lt194, in_default-via-else-b-lt194+else-b-lt224+else-b-lt237+else-b-lt240+else-b-lt244}

pub returns-in-224 : goal.returns-in-224
unfolding leads lead_of
returns-in-224 c = c.expects.ensures ∙ arm 0xE0 1 (expects 2 0xA0 0xBF) tt c.args.b (omega arith) (omega arith)

pub returns-in-237 : goal.returns-in-237
unfolding leads lead_of
returns-in-237 c = c.expects-in-237.ensures ∙ arm 0xED 1 (expects 2 0x80 0x9F) tt c.args.b (omega arith) (omega arith)

pub returns-in-240 : goal.returns-in-240
unfolding leads lead_of
returns-in-240 c = c.expects-in-240.ensures ∙ arm 0xF0 1 (expects 3 0x90 0xBF) tt c.args.b (omega arith) (omega arith)

pub returns-in-244 : goal.returns-in-244
unfolding leads lead_of
returns-in-244 c = c.expects-in-244.ensures ∙ arm 0xF4 1 (expects 3 0x80 0x8F) tt c.args.b (omega arith) (omega arith)

pub returns-in-0-to-127 : goal.returns-in-0-to-127
unfolding leads lead_of
returns-in-0-to-127 c = c.expects-in-0-to-127.ensures ∙ arm 0 128 (expects 0 0x80 0xBF) tt c.args.b (omega arith) (omega arith)

pub returns-in-194-to-223 : goal.returns-in-194-to-223
unfolding leads lead_of
returns-in-194-to-223 c = c.expects-in-194-to-223.ensures ∙ arm 0xC2 30 (expects 1 0x80 0xBF) tt c.args.b (omega arith) (omega arith)

pub returns-in-225-to-236 : goal.returns-in-225-to-236
unfolding leads lead_of
returns-in-225-to-236 c = c.expects-in-225-to-236.ensures ∙ arm 0xE1 12 (expects 2 0x80 0xBF) tt c.args.b (omega arith) (omega arith)

pub returns-in-238-to-239 : goal.returns-in-238-to-239
unfolding leads lead_of
returns-in-238-to-239 c = c.expects-in-238-to-239.ensures ∙ arm 0xEE 2 (expects 2 0x80 0xBF) tt c.args.b (omega arith) (omega arith)

pub returns-in-241-to-243 : goal.returns-in-241-to-243
unfolding leads lead_of
returns-in-241-to-243 c = c.expects-in-241-to-243.ensures ∙ arm 0xF1 3 (expects 3 0x80 0xBF) tt c.args.b (omega arith) (omega arith)

-- what the last arm hands on, however it is written
begins_none : {tail low high : ℕ} → tail ≡ 1 → low ≡ 1 → high ≡ 0 → expects tail low high ≡ expects 1 1 0
begins_none t l h = rw (t, l, h)

pub returns-in_default : goal.returns-in_default
unfolding leads lead_of
returns-in_default c =
    c.expects-in_default.ensures
    ∙ begins_none (omega arith) (omega arith) (omega arith)
    ∙ (elim c.in_default.branch [
      | in_default-via-then-b-lt194 w ↦ arm 0x80 66 (expects 1 1 0) tt c.args.b (omega arith) (omega arith)
      | in_default-via-else-b-lt194+else-b-lt224+else-b-lt237+else-b-lt240+else-b-lt244 w ↦ arm 0xF5 11 (expects 1 1 0) tt c.args.b (omega arith) (omega arith)
    ])
