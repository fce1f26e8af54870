-- `utf8::is_ascii`: by std's test.
use Rattle.text.proofs.Ascii as laws
use Rattle.text.proofs.utf8.is_ascii.Goals as goal

pub returns : goal.returns
returns c = laws.is_ascii c.args.s.now c.is_ascii.result c.is_ascii.ensures.cases
