-- `calls::dropped_at` meets its contract: nothing waits for a name that is not held.
use mathlib.Core.Path.{◌∙◌, ap, sym}
use mathlib.Core.Bool.{cond}
use Rattle.std.specs.Result.{is_ok}
use Rattle.engine.specs.Spot.{place}
use Rattle.engine.specs.Arrays.{reply_at}
use Rattle.engine.specs.Replies.{waits}
use Rattle.engine.proofs.calls.dropped_at.Goals as goal

pub returns-in-Ok : goal.returns-in-Ok
returns-in-Ok c =
    c.waits.ensures.0 ∙ ap waits c.reply_at.ensures ∙ ap (λ s. cond (is_ok s) (waits (reply_at (place s) c.args.numbers.now)) 0) (sym c.in-Ok.is)
