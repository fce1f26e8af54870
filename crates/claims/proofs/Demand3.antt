-- Demand 3, proved (specs/Claim states it): by induction over the list, the engine agrees with the ledger, and the engine is reachable.
-- It holds of every log whose `new` and calls gave what `Begins` and `Answers` say, whatever relation the log cites for that.
use mathlib.Core.Path.{◌≡◌, refl, sym, ◌∙◌, ap, ap₂, subst}
use mathlib.Core.Bool.{Bool, true, false, cond}
use mathlib.Core.List.Forall₂.{nil as no_rows}
use mathlib.Core.List.{List, [], ◌∷◌, ◌++◌, map, Memᴰ as In}
use mathlib.Core.Option.{some}
use Prim.Native.Nat.{ℕ, zero, suc, ◌≤◌}
use native.Mathlib.Omega.{arith}
use lib.ListN.{length}
use borrow.Author.Tests.{leb-false}
use Rattle.engine.specs.Sizes.{records_max}
use Rattle.engine.specs.Held.{Context, Advertisement, Held, fresh}
use Rattle.engine.specs.Calls.{Call, Timeout, acts}
use Rattle.engine.specs.Links.{up_addresses}
use Rattle.engine.specs.Records.{Record, is_due, flat, searches_of, search_on, refresh_records, salvo_due, records}
use Rattle.engine.specs.Replies.{sum_of, waiting, served_need, served, result, results}
use Rattle.engine.specs.Refusals.{late, new_refusal}
use Rattle.engine.specs.Engine.{refusal_of, Step, accepted, unless, step, new_step}
use Rattle.engine.specs.Arrays.{Engine, held}
use Rattle.engine.specs.Promises.{Answered, Answers, Begins}
use Rattle.claims.specs.Ledger.{Wait, Name, waits_in, Ledger, entry, ledger_of, sums_of, ledger_refresh}
use Rattle.claims.specs.Claim.{Log, new, call, counts_of, total, last_waiting, After, timeout_records, Lone, Serves, Exact, Every, Claim}
use Rattle.engine.specs.declared.advertisement.ResponseNeeded.{ResponseNeeded}
use Rattle.engine.specs.declared.advertisement.ResponseNeeded.TheVariants.{None, Multicast, Unicast}
use Rattle.engine.specs.declared.answer.Answer.{Answer}
use Rattle.claims.proofs.LeafLaws.{Laws}
use Rattle.engine.proofs.Answering.{step-accepted}
use Rattle.engine.proofs.Members.{Each, nobody, both, each_at}
use Rattle.claims.proofs.Accepting.{step-refusal, was_accepted}
use Rattle.claims.proofs.Agreement.{Table, Agree, SameCounts, no_counts, plus-same, same-counts, step_same, turned_same, announced-same, served-same}
use Rattle.claims.proofs.Balance.{ledger-level}
use Rattle.claims.proofs.Openings.{LoneWait, Answering, traced, sole-opener, opened-matches}
use Rattle.engine.proofs.Bound.{records-bound}
use Rattle.claims.proofs.Reachable.{Reachable, few-of, reachable-fresh, reachable-step}
use Rattle.claims.proofs.Messages.{step-built}

-- ---- the state behind a list
record State (seed time : ℕ) (cs : List Call) (as' : List Answer) (e : Engine) : Type 0 where
  agree : Agree (held e) (ledger_of seed time cs)
  reachable : Reachable (held e)
  sums : SameCounts (total as') (sums_of seed time cs)
  waiting : last_waiting as' ≡ waits_in (ledger_of seed time cs).names

-- a refused `new` is at time 0
abbrev begun : ℕ → ℕ → Held
begun seed time = fresh seed (cond (late time) 0 time)

new-after : (seed time : ℕ) → (new_step (new_refusal time) seed time).after ≡ begun seed time
unfolding new_refusal
new-after seed time = go (late time)
  where
    go : (b : Bool) → (new_step (cond b 1 0) seed time).after ≡ fresh seed (cond b 0 time)
    go true = refl
    go false = refl

new-counts : (seed time : ℕ) → SameCounts (counts_of (new_step (new_refusal time) seed time).answer) (sums_of seed time [])
unfolding new_refusal sums_of
new-counts seed time = go (late time)
  where
    go : (b : Bool) → SameCounts (counts_of (new_step (cond b 1 0) seed time).answer) (sums_of seed time [])
    go true = no_counts
    go false = no_counts

new-waiting : (seed time : ℕ) → (new_step (new_refusal time) seed time).answer.waiting ≡ waits_in (ledger_of seed time []).names
unfolding new_refusal ledger_of waits_in fresh waiting sum_of
new-waiting seed time = go (late time)
  where
    go : (b : Bool) → (new_step (cond b 1 0) seed time).answer.waiting ≡ 0
    go true = refl
    go false = refl

begun-agree : (seed time : ℕ) → Agree (begun seed time) (ledger_of seed time [])
unfolding fresh ledger_of
begun-agree seed time = record { context = refl; table = no_rows }

state-new : (seed time : ℕ) (r : Answered) → Begins seed time r → State seed time [] (r.answer ∷ []) r.engine
unfolding total last_waiting
state-new seed time r b =
    let e : held r.engine ≡ begun seed time = b.engine ∙ new-after seed time in
    let c : SameCounts (counts_of r.answer) (sums_of seed time []) = rw b.answer (new-counts seed time) in
    record {
      agree = rw e (begun-agree seed time);
      reachable = rw e (reachable-fresh seed (cond (late time) 0 time));
      sums = omega (arith, c);
      waiting = ap (λ (a : Answer). a.waiting) b.answer ∙ new-waiting seed time;
    }

-- what a call gave, beside the ledger's entry
record Next (seed time : ℕ) (cs : List Call) (c : Call) (r : Answered) : Type 0 where
  agree : Agree (held r.engine) (ledger_of seed time (c ∷ cs))
  counts : SameCounts (counts_of r.answer) (entry (ledger_of seed time cs) c).adds
  waiting : r.answer.waiting ≡ waits_in (ledger_of seed time (c ∷ cs)).names

next : (seed time : ℕ) (cs : List Call) (c : Call) (e : Engine) {outbox outbox' : List ℕ} (r : Answered) → Agree (held e) (ledger_of seed time cs) →
    Answers e c outbox outbox' r → Next seed time cs c r
unfolding ledger_of
next seed time cs c e r a d =
    let m = step_same c (held e) (ledger_of seed time cs) a in
    record {
      agree = rw d.engine m.agree;
      counts = rw d.answer m.counts;
      waiting = ap (λ (x : Answer). x.waiting) d.answer ∙ m.waiting;
    }

-- ---- an accepted call
unless-bound : (k : ℕ) (h : Held) (s : Step) → length s.sent ≤ records_max → length (unless k h s).sent ≤ records_max
unless-bound zero h s e = e
unless-bound (suc k) h s e = omega arith

step-bound : (h : Held) (c : Call) → Reachable h → length (step h c).sent ≤ records_max
unfolding step accepted
step-bound h c r = unless-bound (refusal_of h c) h (accepted h c) (records-bound h.context h.advertisements (few-of h r) c)

unless-records : (k : ℕ) (h : Held) (s : Step) → s.answer.records ≡ length s.sent → (unless k h s).answer.records ≡ length (unless k h s).sent
unless-records zero h s e = e
unless-records (suc k) h s e = refl

step-records : (h : Held) (c : Call) → (step h c).answer.records ≡ length (step h c).sent
unfolding step accepted
step-records h c = unless-records (refusal_of h c) h (accepted h c) refl

-- ---- handle_timeout: nothing is due behind it
served-after : (b : Bool) (now : ℕ) (d : ResponseNeeded) → is_due now d ≡ b → After now (served_need b d)
served-after true now d e = tt
served-after false now None e = tt
served-after false now (Multicast due) e = leb-false due now e
served-after false now (Unicast due sender receiver) e = leb-false due now e

all_after : (now : ℕ) (as' : List Advertisement) → Each (λ a. After now a.needed) (map (served now) as')
unfolding served
all_after now [] = nobody
all_after now (a ∷ as') = both (served-after (is_due now a.needed) now a.needed refl) (all_after now as')

-- and its records are the ledger's: the refresh records, if the salvo is due, then those of the waits
sent-at : (now room : ℕ) (x : Context) {as' : List Advertisement} {ns : List Name} → Table as' ns →
    records x as' (Timeout now room) ≡ timeout_records (record { context = x; names = ns }) now
unfolding records refresh_records ledger_refresh
sent-at now room x t =
    let up = up_addresses x.links in
    ap₂ (λ (as' rs : List Record). cond (salvo_due x now) (as' ++ flat (search_on up) (searches_of x.subscriptions)) [] ++ rs)
    (announced-same up t) (served-same now up t).sent

sent-same : (now room : ℕ) (h : Held) (l : Ledger) → Agree h l → records h.context h.advertisements (Timeout now room) ≡ timeout_records l now
sent-same now room h l a = sent-at now room h.context a.table ∙ ap (λ (x : Context). timeout_records (record { context = x; names = l.names }) now) a.context

accepted-timeout : (now room : ℕ) (h : Held) → (accepted h (Timeout now room)).after.advertisements ≡ map (served now) h.advertisements
unfolding accepted acts results result
accepted-timeout now room h = refl

-- a lone reply
lone : Laws → (seed time : ℕ) (cs : List Call) (n : Name) (w : Wait) → In n (ledger_of seed time cs).names → n.wait ≡ some w → w.group ≡ false → Lone seed time cs n w
lone laws seed time cs n w i e g =
    let o = each_at (traced seed time cs) n i i (subst LoneWait (sym e) g) in
    record {
      reply = rw (e, g);
      opening = o;
      sole = λ p. sole-opener seed time p o refl;
      matching = subst (Answering n.service) e (opened-matches laws seed time o);
    }

serves : Laws → (seed time : ℕ) (cs : List Call) (now room : ℕ) (e : Engine) {outbox outbox' : List ℕ} (r : Answered) →
    Answers e (Timeout now room) outbox outbox' r → Agree (held e) (ledger_of seed time cs) → r.answer.refusal ≡ 0 →
    Serves seed time cs now r (step (held e) (Timeout now room)).sent
unfolding accepted
serves laws seed time cs now room e r d a z =
    let s = step-accepted (held e) (Timeout now room) (was_accepted d z) in
    let f : (held r.engine).advertisements ≡ map (served now) (held e).advertisements =
    ap (λ (h : Held). h.advertisements) d.engine ∙ ap (λ (x : Step). x.after.advertisements) s ∙ accepted-timeout now room (held e) in
    record {
      none-due = each_at (rw f (all_after now (held e).advertisements));
      records = ap (λ (x : Step). x.sent) s ∙ sent-same now room (held e) (ledger_of seed time cs) a;
      lone = λ n w i p g _. lone laws seed time cs n w i p g;
    }

-- ---- each call
exact : Laws → (seed time : ℕ) (cs : List Call) (c : Call) (e : Engine) (outbox outbox' : List ℕ) (r : Answered) →
    Answers e c outbox outbox' r → Agree (held e) (ledger_of seed time cs) → Reachable (held e) → Exact seed time cs c outbox outbox' r (step (held e) c).sent
exact laws seed time cs c e outbox outbox' r d a g =
    let n = next seed time cs c e r a d in
    record {
      refusal = ap (λ (x : Answer). x.refusal) d.answer ∙ step-refusal (held e) c ∙ turned_same c (held e) (ledger_of seed time cs) a;
      counts = same-counts n.counts;
      waiting = n.waiting;
      bytes = d.sent;
      records = ap (λ (x : Answer). x.records) d.answer ∙ step-records (held e) c;
      bounded = step-bound (held e) c g;
      messages = each_at (step-built laws (held e) c g);
      serves = λ now room p z.
          subst (λ (x : Call). Serves seed time cs now r (step (held e) x).sent) (sym p)
          (serves laws seed time cs now room e r (subst (λ (x : Call). Answers e x outbox outbox' r) p d) a z);
    }

-- ---- the list
module _ (laws : Laws) {New : ℕ → ℕ → Answered → Type 0} {Gives : Engine → Call → List ℕ → List ℕ → Answered → Type 0}
    (begins : (seed time : ℕ) (r : Answered) → New seed time r → Begins seed time r)
    (answers : (e : Engine) (c : Call) (outbox outbox' : List ℕ) (r : Answered) → Gives e c outbox outbox' r → Answers e c outbox outbox' r) where
  state : {seed time : ℕ} {cs : List Call} {as' : List Answer} {e : Engine} → Log New Gives seed time cs as' e → State seed time cs as' e
  unfolding total last_waiting sums_of
  state {seed} {time} (new {r = r} h) = state-new seed time r (begins seed time r h)
  state {seed} {time} (call {cs = cs} {as' = as'} {e = e} {c = c} {outbox = outbox} {outbox' = outbox'} {r = r} l h) =
      let s = state l in
      let d = answers e c outbox outbox' r h in
      let n = next seed time cs c e r s.agree d in
      record {
        agree = n.agree;
        reachable = rw d.engine (reachable-step laws (held e) c s.reachable);
        sums = plus-same n.counts s.sums;
        waiting = n.waiting;
      }

  every : {seed time : ℕ} {cs : List Call} {as' : List Answer} {e : Engine} → (l : Log New Gives seed time cs as' e) → Every l
  every (new h) = tt
  every {seed} {time} (call {cs = cs} {e = e} {c = c} {outbox = outbox} {outbox' = outbox'} {r = r} l h) =
      let s = state l in
      (exact laws seed time cs c e outbox outbox' r (answers e c outbox outbox' r h) s.agree s.reachable, every l)

  -- every engine of a list is reachable
  pub reachable : {seed time : ℕ} {cs : List Call} {as' : List Answer} {e : Engine} → Log New Gives seed time cs as' e → Reachable (held e)
  reachable l = (state l).reachable

  -- DEMAND 3
  pub demand3 : {seed time : ℕ} {cs : List Call} {as' : List Answer} {e : Engine} → (l : Log New Gives seed time cs as' e) → Claim l
  demand3 {seed} {time} {cs} l =
      let s = state l in
      record {
        sums = same-counts s.sums;
        waiting = s.waiting;
        identity = omega (arith, ledger-level seed time cs, s.sums, s.waiting);
        every = every l;
      }
