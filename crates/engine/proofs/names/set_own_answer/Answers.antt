-- The row's type is written over its end.
use Rattle.engine.proofs.NameRows as names
use Rattle.engine.proofs.names.set_own_answer.Goals as goal

pub returns : goal.returns
returns c = λ len. names.answer-own c.args.row.now c.requires len c.copy_within.ensures.after
