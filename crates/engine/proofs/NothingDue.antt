-- Before the instant to be polled at nothing is due: a handle_timeout then sends nothing, ends no reply and counts none.
use mathlib.Core.Path.{◌≡◌, refl, sym, ◌∙◌, ap, ap₂}
use mathlib.Core.Bool.{Bool, false, cond}
use mathlib.Core.List.{List, [], ◌∷◌, ◌++◌, map}
use Prim.Native.Nat.{ℕ, ◌+◌, ◌<◌}
use native.Mathlib.Omega.{arith}
use borrow.Author.Tests.{lt-leb, lt-ltb}
use lib.Dec.{leb}
use lib.ListN.{length}
use Rattle.engine.specs.RefreshTimer.{timer_step}
use Rattle.engine.specs.Held.{Held, Advertisement}
use Rattle.engine.specs.Calls.{Timeout, acts, zeros}
use Rattle.engine.specs.Links.{up_addresses, context_after}
use Rattle.engine.specs.Layout.{Sent}
use Rattle.engine.specs.Outcomes.{sends}
use Rattle.engine.specs.Refusals.{new_refusal}
use Rattle.engine.specs.Engine.{refusal_of, poll}
use Rattle.engine.proofs.Answering.{plus-zeros, not_chosen, roomy_timeout}
use Rattle.engine.proofs.Sending.{sent-as, sent-nothing}
use Rattle.engine.proofs.RecordCount.{need-is}
use Rattle.engine.proofs.Lending.{Done}
use Rattle.engine.specs.Records.{flat, is_due, reply_records, due_records, refresh_records, records}
use Rattle.engine.specs.Replies.{sum_of, sooner, soonest, served_need, served, is_alone, is_group, alone_at, group_at, result, results}
use Rattle.engine.specs.declared.advertisement.ResponseNeeded.{ResponseNeeded}
use Rattle.engine.specs.declared.advertisement.ResponseNeeded.TheVariants.{None, Multicast, Unicast}

not_yet : (due time : ℕ) → time < due → leb due time ≡ false
not_yet due time h = lt-leb due time h

module _ (time : ℕ) where
  sooner-most : (t : ℕ) (n : ResponseNeeded) → time < sooner t n → time < t
  sooner-most t None h = h
  sooner-most t (Multicast due) h = omega arith
  sooner-most t (Unicast due sender receiver) h = omega arith

  not-due : (t : ℕ) (n : ResponseNeeded) → time < sooner t n → is_due time n ≡ false
  not-due t None h = refl
  not-due t (Multicast due) h = not_yet due time (omega arith)
  not-due t (Unicast due sender receiver) h = not_yet due time (omega arith)

  pub soonest-most : (t : ℕ) (l : List Advertisement) → time < soonest t l → time < t
  unfolding soonest
  soonest-most t [] h = h
  soonest-most t (a ∷ l) h = sooner-most t a.needed (soonest-most (sooner t a.needed) l h)

  here : (t : ℕ) (a : Advertisement) (l : List Advertisement) → time < soonest (sooner t a.needed) l → is_due time a.needed ≡ false
  here t a l h = not-due t a.needed (soonest-most (sooner t a.needed) l h)

  pub no_records : (up : List ℕ) (t : ℕ) (l : List Advertisement) → time < soonest t l → flat (due_records time up) l ≡ []
  unfolding soonest flat due_records
  no_records up t [] h = refl
  no_records up t (a ∷ l) h =
      ap₂ ◌++◌ (ap (λ (b : Bool). cond b (reply_records up a a.needed) []) (here t a l h)) (no_records up (sooner t a.needed) l h)

  pub none-served : (t : ℕ) (l : List Advertisement) → time < soonest t l → map (served time) l ≡ l
  unfolding soonest served
  none-served t [] h = refl
  none-served t (a ∷ l) h =
      let e = here t a l h in
      λ j. record { name = a.name; service = a.service; location = a.location; needed = served_need (e j) a.needed; answer = a.answer }
      ∷ none-served (sooner t a.needed) l h j

  pub none-alone : (t : ℕ) (l : List Advertisement) → time < soonest t l → sum_of (alone_at time) l ≡ 0
  unfolding soonest sum_of alone_at
  none-alone t [] h = refl
  none-alone t (a ∷ l) h =
      ap₂ ◌+◌ (ap (λ (b : Bool). cond b (is_alone a.needed) 0) (here t a l h)) (none-alone (sooner t a.needed) l h)

  pub none-group : (t : ℕ) (l : List Advertisement) → time < soonest t l → sum_of (group_at time) l ≡ 0
  unfolding soonest sum_of group_at
  none-group t [] h = refl
  none-group t (a ∷ l) h =
      ap₂ ◌+◌ (ap (λ (b : Bool). cond b (is_group a.needed) 0) (here t a l h)) (none-group (sooner t a.needed) l h)

-- and a handle_timeout of the engine leaves what is held
pub idle_done : (h : Held) (time room : ℕ) → time < poll h → h ≡ Done h (Timeout time room)
unfolding poll context_after acts result results timer_step
idle_done h time room e =
    let later = soonest-most time h.context.timer.next_salvo h.advertisements e in
    let still : timer_step h.context.timer time ≡ h.context.timer = rw (lt-ltb time h.context.timer.next_salvo later) in
    λ j. record {
      context = record { seed = h.context.seed; timer = sym still j; links = h.context.links; subscriptions = h.context.subscriptions };
      advertisements = sym (none-served time h.context.timer.next_salvo h.advertisements e) j;
    }

pub idle_counts : (h : Held) (time room : ℕ) → time < poll h → zeros ≡ (results h.context.seed h.advertisements (acts (Timeout time room))).counts
unfolding poll acts result results
idle_counts h time room e =
    let salvo = h.context.timer.next_salvo in
    (λ j. sends (sym (none-alone time salvo h.advertisements e) j) (sym (none-group time salvo h.advertisements e) j)) ∙ sym (plus-zeros _)

idle_records : (h : Held) (time room : ℕ) → time < poll h → records h.context h.advertisements (Timeout time room) ≡ []
unfolding poll records
idle_records h time room e =
    let salvo = h.context.timer.next_salvo in
    let up = up_addresses h.context.links in
    let rs = refresh_records h.context h.advertisements in
    ap₂ ◌++◌ (not_chosen rs (lt-leb salvo time (soonest-most time salvo h.advertisements e))) (no_records time up salvo h.advertisements e)

pub idle_sent : (h : Held) (time room : ℕ) (outbox : List ℕ) → time < poll h → Sent (records h.context h.advertisements (Timeout time room)) outbox outbox 0
idle_sent h time room outbox e = sent-as (sent-nothing outbox) (sym (idle_records h time room e))

-- so that it needs no room
pub idle_accepted : (h : Held) (time room : ℕ) → new_refusal time ≡ 0 → time < poll h → refusal_of h (Timeout time room) ≡ 0
idle_accepted h time room k e =
    roomy_timeout h time room k (omega (arith, need-is h.context h.advertisements (Timeout time room), ap length (idle_records h time room e)))
