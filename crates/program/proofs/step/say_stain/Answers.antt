-- `say_stain` meets its contract: nothing, or `!`.
use Rattle.std.proofs.Common.{◌∙◌, arith}
use Rattle.text.specs.Bytes.{bytes}
use Rattle.program.proofs.PrintsDue.{written-whole, stain-none, stain-some}
use Rattle.program.proofs.step.say_stain.Goals as goal

pub returns-then-is_clean : goal.returns-then-is_clean
returns-then-is_clean c = stain-none c.args.n c.args.lent.now c.is_clean.ensures c.if-is_clean.true

pub returns : goal.returns
unfolding bytes
returns c =
    written-whole c.append.ensures (omega (arith, c.requires)) ∙ stain-some c.args.n c.args.lent.now c.is_clean.ensures c.if-is_clean.false
