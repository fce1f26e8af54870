-- The refresh timer: document 01, 'Refresh timer', and refusal 1 of 'Who can be turned away'.
use Rattle.std.specs.Prelude.{ℕ, ◌+◌, ◌*◌, ◌/◌, ◌%◌, ◌^◌, cond, leb, ltb, eqb, Result, Ok, Err}
use Rattle.engine.specs.Sizes.{time_max}
use Rattle.engine.specs.declared.refresh_timer.RefreshTimer.{RefreshTimer}
use Rattle.engine.specs.declared.refresh_timer.Late.{Late}

-- refusal '1 time above 2^63 − 1'
abbrev pub time_refusal : ℕ → ℕ
time_refusal time = cond (leb time time_max) 0 1

-- 'byte number phase of the seed (byte 0 the lowest)'; phases count modulo 4
unfoldable pub seed_byte : ℕ → ℕ → ℕ
seed_byte seed phase = seed / 256 ^ (phase % 4) % 256

-- '6,000, or 800,000 in phase 3, plus 10 times' that byte
unfoldable pub period : ℕ → ℕ → ℕ
period seed phase = cond (eqb (phase % 4) 3) 800000 6000 + 10 * seed_byte seed phase

-- a timer whose first salvo is due at once
unfoldable pub timer_new : ℕ → ℕ → RefreshTimer
timer_new seed time = record { random_seed = seed; next_salvo = time; phase = 0 }

-- '`reset_refresh_timer` sets the instant to now and the phase to 0'
unfoldable pub timer_reset : RefreshTimer → ℕ → RefreshTimer
timer_reset t time = timer_new t.random_seed time

-- `update_refresh`: 'before the salvo instant, nothing. Else the instant grows by' the period, 'and phase steps modulo 4. One step a call, however late.'
unfoldable pub timer_step : RefreshTimer → ℕ → RefreshTimer
timer_step t time =
    cond (ltb time t.next_salvo) t
    (record { random_seed = t.random_seed; next_salvo = t.next_salvo + period t.random_seed t.phase; phase = (t.phase + 1) % 4 })

-- the call's answer where its time is refused, and where it is not
unfoldable pub answer_for : ℕ → RefreshTimer → RefreshTimer → Result RefreshTimer Late
answer_for time refused accepted = cond (leb time time_max) (Ok accepted) (Err (record { timer = refused }))

-- the timer with which the caller goes on
abbrev pub timer_of : Result RefreshTimer Late → RefreshTimer
timer_of (Ok t) = t
timer_of (Err late) = late.timer

-- a refused `new` gives that seed at time 0, any other refused call the untouched timer
abbrev pub new_answer : ℕ → ℕ → Result RefreshTimer Late
new_answer seed time = answer_for time (timer_new seed 0) (timer_new seed time)

abbrev pub reset_answer : RefreshTimer → ℕ → Result RefreshTimer Late
reset_answer t time = answer_for time t (timer_reset t time)

abbrev pub update_answer : RefreshTimer → ℕ → Result RefreshTimer Late
update_answer t time = answer_for time t (timer_step t time)
