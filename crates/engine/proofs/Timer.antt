-- Laws of the refresh timer's definitions: what a period is at most, what a step keeps, and what an answer tells of its time.
use Prim.Native.Nat.{ℕ, ◌+◌, ◌*◌, ◌%◌, ◌≤◌, ◌<◌}
use mathlib.Core.Path.{◌≡◌, refl, sym, subst}
use mathlib.Core.Bool.{Bool, true, false, cond}
use native.Mathlib.Omega.{arith}
use borrow.Author.Tests.{eq-eqb, ne_eqb, lt-ltb, le-ltb, le-leb, lt-leb, leb-true, leb-false, ltb-true, ltb-false}
use lib.Dec.{eqb, leb, ltb}
use Rattle.std.specs.Prelude.{Result, Ok, Err}
use Rattle.engine.specs.declared.refresh_timer.Late.{Late}
use Rattle.engine.specs.declared.refresh_timer.RefreshTimer.{RefreshTimer}
use Rattle.engine.specs.Sizes.{time_max}
use Rattle.engine.specs.RefreshTimer.{time_refusal, seed_byte, period, timer_new, timer_reset, timer_step, answer_for, timer_of, update_answer}

either-base : (b : Bool) → cond b 800000 6000 ≤ 800000
either-base true = omega arith
either-base false = omega arith

-- no period is longer than 802,550 milliseconds
pub period-max : (seed phase : ℕ) → period seed phase ≤ 802550
unfolding period seed_byte
period-max seed phase = omega (arith, either-base (eqb (phase % 4) 3))

-- the period in phase 3, and in the others
pub period-long : (seed phase : ℕ) → phase % 4 ≡ 3 → period seed phase ≡ 800000 + 10 * seed_byte seed phase
unfolding period
period-long seed phase e = rw (eq-eqb _ _ e)

pub period-short : (seed phase : ℕ) → (phase % 4 ≡ 3 → ⊥) → period seed phase ≡ 6000 + 10 * seed_byte seed phase
unfolding period
period-short seed phase e = rw (ne_eqb _ _ e)

-- before the salvo instant nothing is done
pub step-early : (t : RefreshTimer) (time : ℕ) → time < t.next_salvo → timer_step t time ≡ t
unfolding timer_step
step-early t time e = rw (lt-ltb _ _ e)

-- from the salvo instant on, one step
pub step-due : (t : RefreshTimer) (time : ℕ) → t.next_salvo ≤ time → timer_step t time ≡ record { random_seed = t.random_seed; next_salvo = t.next_salvo + period t.random_seed t.phase; phase = (t.phase + 1) % 4 }
unfolding timer_step
step-due t time e = rw (le-ltb _ _ e)

-- the step as the code takes it, from the instant that it has found
pub stepped_to : (t : RefreshTimer) (time instant p : ℕ) → t.next_salvo ≤ time → instant ≡ t.next_salvo + p → p ≡ period t.random_seed t.phase
    → record { random_seed = t.random_seed; next_salvo = instant; phase = (t.phase % 4 + 1) % 4 } ≡ timer_step t time
unfolding timer_step
stepped_to t time instant p e i q =
    let m : (t.phase % 4 + 1) % 4 ≡ (t.phase + 1) % 4 = omega arith in
    rw (le-ltb _ _ e, i, q, m)

-- what an answer tells of its time, and the timer in it
pub timely : (time : ℕ) (a b t : RefreshTimer) → answer_for time a b ≡ Ok t → (time ≤ time_max) × (t ≡ b)
unfolding answer_for
timely time a b t = go (leb time time_max) refl
  where
    go : (l : Bool) → leb time time_max ≡ l → cond {A = Result RefreshTimer Late} l (Ok b) (Err (record { timer = a })) ≡ Ok t → (time ≤ time_max) × (t ≡ b)
    go true e h = (leb-true time time_max e, cc)
    go false e h = cc

pub late : (time : ℕ) (a b : RefreshTimer) (l : Late) → answer_for time a b ≡ Err l → (time_max < time) × (l.timer ≡ a)
unfolding answer_for
late time a b l = go (leb time time_max) refl
  where
    go : (t : Bool) → leb time time_max ≡ t → cond {A = Result RefreshTimer Late} t (Ok b) (Err (record { timer = a })) ≡ Err l → (time_max < time) × (l.timer ≡ a)
    go true e h = cc
    go false e h = (leb-false time time_max e, cc)

-- the number of a time
pub timely-number : (time : ℕ) → time ≤ time_max → time_refusal time ≡ 0
timely-number time h = rw (le-leb _ _ h)

pub late-number : (time : ℕ) → time_max < time → time_refusal time ≡ 1
late-number time h = rw (lt-leb _ _ h)

-- what holds of every timer that comes from the calls: a phase of four, and an instant that one period can follow in 64 bits
pub record TimerBounds (t : RefreshTimer) : Type 0 where
  pub phase : t.phase < 4
  pub salvo : t.next_salvo ≤ time_max + 802550

pub new-bounds : (seed time : ℕ) → time ≤ time_max → TimerBounds (timer_new seed time)
unfolding timer_new
new-bounds seed time h = record { phase = omega arith; salvo = omega arith }

pub reset-bounds : (t : RefreshTimer) (time : ℕ) → time ≤ time_max → TimerBounds (timer_reset t time)
unfolding timer_reset
reset-bounds t time h = new-bounds t.random_seed time h

pub step-bounds : (t : RefreshTimer) (time : ℕ) → time ≤ time_max → TimerBounds t → TimerBounds (timer_step t time)
step-bounds t time h r = go (ltb time t.next_salvo) refl
  where
    go : (b : Bool) → ltb time t.next_salvo ≡ b → TimerBounds (timer_step t time)
    go true e = subst TimerBounds (sym (step-early t time (ltb-true _ _ e))) r
    go false e =
        let due : t.next_salvo ≤ time = ltb-false _ _ e in
        subst TimerBounds (sym (step-due t time due))
        (record { phase = omega arith; salvo = omega (arith, period-max t.random_seed t.phase) })

-- a time that a call may bear takes the step
pub in_time : (t : RefreshTimer) (time : ℕ) → time ≤ time_max → timer_of (update_answer t time) ≡ timer_step t time
unfolding answer_for
in_time t time h = rw (le-leb time time_max h)
