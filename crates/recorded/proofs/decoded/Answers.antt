-- `decoded` has as many bytes as it asked for. A search finds this too, but none is made where `bytes`, which it calls, is not proved, as in wrong_answers.edit.
use Rattle.recorded.proofs.decoded.Goals as goal

pub returns : goal.returns
returns c = c.in_ok-decoded.ensures.len
