-- Each field is the definition's.
use lib.ListN.{get_or}
use Rattle.engine.specs.Arrays.{salvo_place, timer_in, low8, phase_place}
use Rattle.engine.proofs.head.timer_in.Goals as goal

pub returns : goal.returns
unfolding timer_in
returns c = λ j. record { random_seed = c.seed_in.ensures j; next_salvo = get_or c.args.head.now salvo_place 0; phase = low8 (get_or c.args.head.now phase_place 0) }
