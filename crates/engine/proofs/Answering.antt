-- How a call's parts make what it promises: a refused call, and an accepted one.
use mathlib.Core.Path.{◌≡◌, refl, sym, ◌∙◌, ap}
use mathlib.Core.Bool.{Bool, true, false, cond}
use mathlib.Core.List.{List, [], ◌∷◌, append-nil}
use Prim.Native.Nat.{ℕ, zero, suc, ◌≤◌, ◌<◌}
use borrow.Author.Tests.{leb-true, leb-false, lt-ltb, le-ltb}
use lib.Dec.{leb, ltb}
use native.Mathlib.Omega.{arith}
use native.Mathlib.Nat.{add-zero}
use Rattle.engine.specs.Sizes.{time_max}
use Rattle.engine.specs.RefreshTimer.{time_refusal}
use Rattle.engine.proofs.Timer.{timely-number, late-number}
use Rattle.engine.specs.Held.{Held, fresh}
use Rattle.engine.specs.Calls.{Call, Timeout, ResetTimer, Counts, zeros, plus}
use Rattle.engine.specs.Refusals.{time_late, outbox_short, checks, refusal, new_refusal}
use Rattle.engine.specs.Records.{Record, flat}
use Rattle.engine.specs.Layout.{layout, written, Sent}
use Rattle.engine.specs.Engine.{need_of, refusal_of, Step, step, accepted, refused_by, unless, new_step}

-- no record leaves the outbox as it is
pub written_none : (outbox : List ℕ) → written [] outbox ≡ outbox
unfolding written layout flat
written_none outbox = refl

unless-refused : (k : ℕ) (h : Held) (s : Step) → (k ≡ 0 → ⊥) → unless k h s ≡ refused_by k h
unless-refused zero h s n = absurd (n refl)
unless-refused (suc k) h s n = refl

pub step-refused : (h : Held) (c : Call) (k : ℕ) → refusal_of h c ≡ k → (k ≡ 0 → ⊥) → step h c ≡ refused_by k h
unfolding step
step-refused h c k e n = rw e (unless-refused k h (accepted h c) n)

pub step-accepted : (h : Held) (c : Call) → refusal_of h c ≡ 0 → step h c ≡ accepted h c
unfolding step
step-accepted h c e = rw e

-- ---- `new`
pub timely-new : (time : ℕ) → time ≤ time_max → new_refusal time ≡ 0
unfolding new_refusal
timely-new time h = rw (le-ltb time_max time h)

pub late-new : (time : ℕ) → time_max < time → new_refusal time ≡ time_late
unfolding new_refusal
late-new time h = rw (lt-ltb time_max time h)

pub time-number : (time : ℕ) → new_refusal time ≡ time_refusal time
time-number time = go (leb time time_max) refl
  where
    go : (b : Bool) → leb time time_max ≡ b → new_refusal time ≡ time_refusal time
    go true e = timely-new time (leb-true time time_max e) ∙ sym (timely-number time (leb-true time time_max e))
    go false e = late-new time (leb-false time time_max e) ∙ sym (late-number time (leb-false time time_max e))

pub timely-reset : (h : Held) (time : ℕ) → time ≤ time_max → refusal_of h (ResetTimer time) ≡ 0
unfolding refusal_of refusal checks
timely-reset h time k = rw (le-ltb time_max time k)

pub late-reset : (h : Held) (time : ℕ) → time_max < time → refusal_of h (ResetTimer time) ≡ time_late
unfolding refusal_of refusal checks
late-reset h time k = rw (lt-ltb time_max time k)

-- ---- handle_timeout: a time that is late refuses it; else the room, if that is short
module _ (h : Held) (time room : ℕ) where
  abbrev bytes : ℕ
  bytes = need_of h (Timeout time room)

  pub late-timeout : (new_refusal time ≡ 0 → ⊥) → refusal_of h (Timeout time room) ≡ new_refusal time
  unfolding new_refusal refusal_of refusal checks
  late-timeout n = go (ltb time_max time) (ltb room bytes) n
    where
      go : (l s : Bool) → (◌≡◌ {A = ℕ} (cond l 1 0) 0 → ⊥) → ◌≡◌ {A = ℕ} (cond l 1 (cond s 2 0)) (cond l 1 0)
      go true s n = refl
      go false s n = absurd (n refl)

  timely : new_refusal time ≡ 0 → refusal_of h (Timeout time room) ≡ cond (ltb room bytes) outbox_short 0
  unfolding new_refusal refusal_of refusal checks
  timely e = go (ltb time_max time) (ltb room bytes) e
    where
      go : (l s : Bool) → ◌≡◌ {A = ℕ} (cond l 1 0) 0 → ◌≡◌ {A = ℕ} (cond l 1 (cond s 2 0)) (cond s 2 0)
      go true s e = absurd (omega arith)
      go false s e = refl

  pub short-timeout : new_refusal time ≡ 0 → room < bytes → refusal_of h (Timeout time room) ≡ outbox_short
  short-timeout e k = timely e ∙ ap (λ (b : Bool). cond b outbox_short 0) (lt-ltb room bytes k)

  pub roomy_timeout : new_refusal time ≡ 0 → bytes ≤ room → refusal_of h (Timeout time room) ≡ 0
  roomy_timeout e k = timely e ∙ ap (λ (b : Bool). cond b outbox_short 0) (le-ltb room bytes k)

pub new-refused : (k seed time : ℕ) → (k ≡ 0 → ⊥) → new_step k seed time ≡ refused_by k (fresh seed 0)
new-refused zero seed time n = absurd (n refl)
new-refused (suc k) seed time n = refl

-- ---- an accepted call, part by part: the engine after it, what it counts, whom it notifies and what it sends

-- nothing sent by a call that takes no outbox
pub sent-none : Sent [] [] [] 0
sent-none = record { number = refl; bytes = sym (written_none []) }

-- what is sent by a test, and what is not
pub chosen : {b : Bool} (rs : List Record) → b ≡ true → cond b rs [] ≡ rs
chosen rs e = rw e

pub not_chosen : {b : Bool} (rs : List Record) → b ≡ false → cond b rs [] ≡ []
not_chosen rs e = rw e

-- one entry, or none
pub flat-one : {A : Type 0} (f : A → List Record) (b : Bool) (x : A) → cond b (f x) [] ≡ flat f (cond b (x ∷ []) [])
unfolding flat
flat-one f true x = sym (append-nil (f x))
flat-one f false x = refl

pub plus-zeros : (c : Counts) → plus c zeros ≡ c
plus-zeros c = λ i. record {
  matched = add-zero c.matched i;
  joined = add-zero c.joined i;
  alone = add-zero c.alone i;
  group = add-zero c.group i;
  dropped = add-zero c.dropped i;
}
