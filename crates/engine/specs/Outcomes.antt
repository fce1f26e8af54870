-- What an accepted call counts and whom it notifies, as the code hands it on.
use Rattle.std.specs.Prelude.{ℕ}
use Rattle.engine.specs.Calls.{Counts}
use Rattle.engine.specs.Engine.{Notified}
use Rattle.engine.specs.declared.answer.Outcome.{Outcome}

abbrev pub counted : Outcome → Counts
counted t = record { matched = t.matched; joined = t.joined; alone = t.alone; group = t.group; dropped = t.dropped }

abbrev pub notified_by : Outcome → Notified
notified_by t = record { mask = t.mask; number = t.told; leave = t.leave }

-- nobody is told, and the leave outcome is answered
abbrev pub leaves : ℕ → Notified
leaves outcome = record { mask = 0; number = 0; leave = outcome }

-- replies were sent, alone and to the group
abbrev pub sends : ℕ → ℕ → Counts
sends alone group = record { matched = 0; joined = 0; alone = alone; group = group; dropped = 0 }

-- a search matched, and joined replies that wait
abbrev pub asks : ℕ → ℕ → Counts
asks matched joined = record { matched = matched; joined = joined; alone = 0; group = 0; dropped = 0 }

-- subscriptions are told
abbrev pub notifies_mask : ℕ → ℕ → Notified
notifies_mask mask number = record { mask = mask; number = number; leave = 0 }
