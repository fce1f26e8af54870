-- The number of the refusal is that of the definition.
use Rattle.std.proofs.Common.{◌∙◌}
use Rattle.engine.proofs.Answering.{time-number}
use Rattle.engine.proofs.refresh_timer.time_refusal.Goals as goal

pub returns : goal.returns
returns c = c.of_time.ensures.0 ∙ time-number c.args.time
