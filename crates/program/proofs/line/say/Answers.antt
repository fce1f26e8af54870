-- `say` meets its contract: there is room for the text.
use Rattle.program.proofs.PrintsDue.{written-whole}
use Rattle.program.proofs.line.say.Goals as goal

pub returns : goal.returns
returns c = written-whole c.append.ensures c.requires
