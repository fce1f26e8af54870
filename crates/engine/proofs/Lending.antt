-- How a call's parts make what it promises over lent arrays: a refused call, and an accepted one; and what the arrays hold after a change of one table or of the timer.
use mathlib.Core.Path.{◌≡◌, refl, sym, ◌∙◌, ap}
use mathlib.Core.Bool.{Bool, true, false, cond, not, ◌&&◌, true≢false}
use mathlib.Core.List.{List, [], ◌∷◌, ◌++◌}
use Prim.Native.Nat.{ℕ, suc, ◌+◌, ◌-◌, ◌<◌, ◌≤◌}
use native.Mathlib.Nat.{add-zero}
use native.Mathlib.Numerals.{add-one}
use native.Mathlib.Omega.{arith}
use borrow.Author.Tests.{leb-false}
use lib.Dec.{ltb, leb}
use lib.ListN.{length, set, get_or}
use Rattle.engine.specs.Sizes.{advertisements_max, subscriptions_max}
use Rattle.engine.specs.Rows.{rows}
use Rattle.engine.specs.Slots.{insert_at, remove_at}
use Rattle.engine.specs.Table.{known, entry_of, enter, leave}
use Rattle.std.proofs.Common.{Result}
use Rattle.std.specs.Result.{is_ok}
use Rattle.engine.specs.Spot.{place, Spotted}
use Rattle.engine.specs.RefreshTimer.{timer_new, timer_reset, timer_step}
use Rattle.engine.specs.declared.refresh_timer.RefreshTimer.{RefreshTimer}
use Rattle.engine.specs.Held.{Text, Link, Advertisement, Held, holding, fresh, advertised}
use Rattle.engine.specs.Calls.{Call, Counts, zeros, acts}
use Rattle.engine.specs.Replies.{waiting, waits, sum_of, soonest, newcomer, results}
use Rattle.engine.specs.Refusals.{new_refusal, number_of, refused_as}
use Rattle.std.specs.Prelude.{Result, Err}
use Rattle.engine.specs.declared.refusals.Refusal.{Refusal}
use Rattle.engine.specs.declared.refusals.Refusal.TheVariants.{TimeLate, OutboxShort, TextOverSize, TextNotGood, TableFull, WaitZero, TargetOverSize, IndexZero, AddressLength, LinksFull, JoinFailed}
use Rattle.engine.specs.Records.{records, byebye_on, flat}
use Rattle.engine.specs.Layout.{written, Sent}
use Rattle.engine.specs.Links.{context_after}
use Rattle.engine.specs.Engine.{refusal_of, poll, Notified, notifies, notifies_nobody, Step, answer_with, accepted, refused_by, new_step}
use Rattle.engine.specs.Arrays.{Engine, engine, held, head_places, salvo_place, phase_place, names_place, links_place, searches_place, low32, seed_in, timer_in, link_width, link_in, link_count, links_in, search_width, search_in, search_rows, search_count, searches_in, entry_in, entry_at, reply_at, entries, name_count, names_in}
use Rattle.engine.specs.Changes.{blank, LinksAfter, NamesAfter}
use Rattle.engine.specs.Promises.{answered, Answers, Begins}
use Rattle.engine.specs.declared.answer.Answer.{Answer}
use Rattle.engine.proofs.TableRows.{lines-length}
use Rattle.engine.proofs.NameRows.{names-length, name-is}
use Rattle.engine.proofs.Tables.{rank-le, known-lt, entry_known, entry-unknown, enter-known, enter-unknown, leave-known, leave-unknown}
use Rattle.engine.proofs.Answering.{written_none, step-refused, step-accepted, new-refused, flat-one}
use Rattle.engine.proofs.Heads as heads

-- an answer, with the waiting and poll of what the arrays hold
pub answer-of : (number records : ℕ) (c : Counts) (w : Notified) (t : Engine) (waits soon : ℕ) → waits ≡ waiting (names_in t.head t.numbers t.texts) →
    soon ≡ soonest (timer_in t.head).next_salvo (names_in t.head t.numbers t.texts) →
    ◌≡◌ {A = Answer} (record {
      refusal = number;
      records = records;
      matched = c.matched;
      joined = c.joined;
      alone = c.alone;
      group = c.group;
      dropped = c.dropped;
      waiting = waits;
      poll = soon;
      mask = w.mask;
      told = w.number;
      leave = w.leave;
    }) (answer_with number records c (held t) w)
unfolding held poll
answer-of number records c w t waits soon hw hs = rw (hw, hs)

-- ---- a call that refused with k: the very arrays, document 01's refused answer, the outbox as it was
pub refused-answers : (t : Engine) (c : Call) (outbox : List ℕ) (r : Answer) (k : ℕ) → refusal_of (held t) c ≡ k → (k ≡ 0 → ⊥) →
    r ≡ (refused_by k (held t)).answer → Answers t c outbox outbox (answered t r)
refused-answers t c outbox r k e n answer =
    let s = step-refused (held t) c k e n in
    record {
      answer = answer ∙ ap (λ (x : Step). x.answer) (sym s);
      engine = ap (λ (x : Step). x.after) (sym s);
      sent = sym (ap (λ (x : Step). written x.sent outbox) s ∙ written_none outbox);
      untouched = λ _. refl;
    }

-- no refusal has number 0
pub number-not0 : (e : Refusal) → number_of e ≡ 0 → ⊥
number-not0 TimeLate h = omega arith
number-not0 OutboxShort h = omega arith
number-not0 TextOverSize h = omega arith
number-not0 TextNotGood h = omega arith
number-not0 TableFull h = omega arith
number-not0 WaitZero h = omega arith
number-not0 TargetOverSize h = omega arith
number-not0 IndexZero h = omega arith
number-not0 AddressLength h = omega arith
number-not0 LinksFull h = omega arith
number-not0 JoinFailed h = omega arith

-- a call that refused for e, the number of which its answer has
pub refused-for : (t : Engine) (c : Call) (outbox : List ℕ) (r : Answer) (k : ℕ) (e : Refusal) {checked : Result (Unit {0}) Refusal} →
    refused_as checked ≡ refusal_of (held t) c → checked ≡ Err e → k ≡ number_of e → r ≡ (refused_by k (held t)).answer →
    Answers t c outbox outbox (answered t r)
refused-for t c outbox r k e {checked} as' is number answer =
    refused-answers t c outbox r k (sym as' ∙ ap refused_as is ∙ sym number) (λ z. number-not0 e (sym number ∙ z)) answer

-- ---- an accepted call, part by part: what the arrays hold after it, what it counts, whom it notifies and what it sends
abbrev pub Done : Held → Call → Held
Done h c = record { context = context_after h.context c; advertisements = (results h.context.seed h.advertisements (acts c)).advertisements }

pub done-answers : (t t' : Engine) (c : Call) {outbox outbox' : List ℕ} {r : Answer} (k : ℕ) (n : Counts) (w : Notified) → refusal_of (held t) c ≡ 0 →
    held t' ≡ Done (held t) c → n ≡ (results (held t).context.seed (held t).advertisements (acts c)).counts → w ≡ notifies (held t).context c →
    Sent (records (held t).context (held t).advertisements c) outbox outbox' k → r ≡ answer_with 0 k n (held t') w →
    Answers t c outbox outbox' (answered t' r)
unfolding accepted
done-answers t t' c {outbox} k n w pass after counts told sent answer =
    let s = step-accepted (held t) c pass in
    record {
      answer = answer ∙ (λ i. answer_with 0 (sent.number i) (counts i) (after i) (told i)) ∙ ap (λ (x : Step). x.answer) (sym s);
      engine = after ∙ ap (λ (x : Step). x.after) (sym s);
      sent = sent.bytes ∙ ap (λ (x : Step). written x.sent outbox) (sym s);
      untouched = λ z. absurd (z pass);
    }

-- ---- `new`
pub refused-begins : (seed time : ℕ) (t : Engine) (r : Answer) (k : ℕ) → k ≡ new_refusal time → (k ≡ 0 → ⊥) → held t ≡ fresh seed 0 →
    r ≡ (refused_by k (held t)).answer → Begins seed time (answered t r)
refused-begins seed time t r k e n f answer =
    let s : new_step (new_refusal time) seed time ≡ refused_by k (fresh seed 0) = ap (λ (x : ℕ). new_step x seed time) (sym e) ∙ new-refused k seed time n in
    record {
      answer = answer ∙ ap (λ (h : Held). (refused_by k h).answer) f ∙ ap (λ (x : Step). x.answer) (sym s);
      engine = f ∙ ap (λ (x : Step). x.after) (sym s);
    }

pub accepted-begins : (seed time : ℕ) (t : Engine) (r : Answer) (n : Counts) (w : Notified) → new_refusal time ≡ 0 → held t ≡ fresh seed time → n ≡ zeros → w ≡ notifies_nobody →
    r ≡ answer_with 0 0 n (held t) w → Begins seed time (answered t r)
accepted-begins seed time t r n w e f counts told answer =
    let s : new_step (new_refusal time) seed time ≡ new_step 0 seed time = ap (λ (x : ℕ). new_step x seed time) e in
    record {
      answer = answer ∙ (λ i. answer_with 0 0 (counts i) (f i) (told i)) ∙ ap (λ (x : Step). x.answer) (sym s);
      engine = f ∙ ap (λ (x : Step). x.after) (sym s);
    }

-- what the arrays hold that begin: nothing but a timer
pub begun_fresh : {head : List ℕ} (links searches numbers texts : List ℕ) (t : RefreshTimer) (seed time : ℕ) → head ≡ heads.begun t → t ≡ timer_new seed time → seed < 4294967296 →
    held (engine head links searches numbers texts) ≡ fresh seed time
unfolding fresh timer_new held seed_in timer_in links_in searches_in names_in rows
begun_fresh links searches numbers texts t seed time e f h =
    let s : low32 seed ≡ seed = omega arith in
    ap (λ (x : List ℕ). held (engine x links searches numbers texts)) (e ∙ ap heads.begun f)
    ∙ (λ i. holding (s i) (record { random_seed = s i; next_salvo = time; phase = 0 }) [] [] [])

-- a timer with a head's seed and a phase of one byte
abbrev pub Keeps : List ℕ → RefreshTimer → Type 0
Keeps head t = (t.random_seed ≡ seed_in head) × (t.phase < 256)

-- ---- the arrays after a change of one table, whose count was stored
module _ (head links searches numbers texts : List ℕ) (size : length head ≡ head_places) where
  pub links-changed : {head' links' : List ℕ} (n : ℕ) (l : List Link) → head' ≡ set head links_place n → LinksAfter n links' l →
      held (engine head' links' searches numbers texts) ≡ holding (seed_in head) (timer_in head) l (searches_in head searches) (names_in head numbers texts)
  unfolding held
  links-changed {head'} {links'} n l e a =
      ap (λ (h : List ℕ). held (engine h links' searches numbers texts)) e
      ∙ (λ i. holding (heads.seed-kept head links_place n (omega arith) i) (heads.timer-kept head links_place n (omega arith) i)
      ((heads.links-counted head n size links' a.few ∙ a.rows) i) (heads.searches-kept head links_place n searches (λ z. omega arith) i)
      (heads.names-kept head links_place n numbers texts (λ z. omega arith) i))

  searches-all : (n : ℕ) → n ≡ search_count head → search_rows n searches ≡ searches_in head searches
  unfolding searches_in
  searches-all n e = ap (λ (k : ℕ). search_rows k searches) e

  pub searches-pushed : {head' : List ℕ} (searches' : List ℕ) (n : ℕ) (service : Text) → head' ≡ set head searches_place (n + 1) → n ≡ search_count head → n < subscriptions_max →
      search_rows (suc n) searches' ≡ search_rows n searches ++ (service ∷ []) →
      held (engine head' links searches' numbers texts)
      ≡ holding (seed_in head) (timer_in head) (links_in head links) (searches_in head searches ++ (service ∷ [])) (names_in head numbers texts)
  unfolding held
  searches-pushed searches' n service e count few a =
      let m = n + 1 in
      ap (λ (h : List ℕ). held (engine h links searches' numbers texts)) e
      ∙ (λ i. holding (heads.seed-kept head searches_place m (omega arith) i) (heads.timer-kept head searches_place m (omega arith) i)
      (heads.links-kept head searches_place m links (λ z. omega arith) i)
      ((heads.searches-counted head m size searches' (omega arith) ∙ ap (λ (k : ℕ). search_rows k searches') (add-one n) ∙ a
      ∙ ap (λ (l : List Text). l ++ (service ∷ [])) (searches-all n count)) i)
      (heads.names-kept head searches_place m numbers texts (λ z. omega arith) i))

  pub names-changed : {head' numbers' texts' : List ℕ} (n : ℕ) (l : List Advertisement) → head' ≡ set head names_place n → NamesAfter n numbers' texts' l →
      held (engine head' links searches numbers' texts') ≡ holding (seed_in head) (timer_in head) (links_in head links) (searches_in head searches) l
  unfolding held
  names-changed {head'} {numbers'} {texts'} n l e a =
      ap (λ (h : List ℕ). held (engine h links searches numbers' texts')) e
      ∙ (λ i. holding (heads.seed-kept head names_place n (omega arith) i) (heads.timer-kept head names_place n (omega arith) i)
      (heads.links-kept head names_place n links (λ z. omega arith) i) (heads.searches-kept head names_place n searches (λ z. omega arith) i)
      ((heads.names-counted head n size numbers' texts' a.few ∙ a.rows) i))

  -- and of the timer, which keeps its seed
  pub timer-changed : {head' : List ℕ} (u t : RefreshTimer) → head' ≡ set (set head salvo_place u.next_salvo) phase_place u.phase → u ≡ t → Keeps head t →
      held (engine head' links searches numbers texts) ≡ holding (seed_in head) t (links_in head links) (searches_in head searches) (names_in head numbers texts)
  unfolding held
  timer-changed u t e f k =
      ap (λ (h : List ℕ). held (engine h links searches numbers texts)) (e ∙ ap (λ (x : RefreshTimer). heads.timed head x) f)
      ∙ (λ i. holding (heads.timed-seed head t size i) (heads.timed-timer head t size k.0 k.1 i) (heads.timed-links head t size links i)
      (heads.timed-searches head t size searches i) (heads.timed-names head t size numbers texts i))

-- ---- the timer of a head after a step, and begun anew: its seed and its phase
either-keeps : (head : List ℕ) (b : Bool) (t u : RefreshTimer) → Keeps head t → Keeps head u → Keeps head (cond b t u)
either-keeps head true t u k l = k
either-keeps head false t u k l = l

pub step_keeps : (head : List ℕ) (time : ℕ) → Keeps head (timer_step (timer_in head) time)
unfolding timer_step timer_in
step_keeps head time = either-keeps head (ltb time (timer_in head).next_salvo) _ _ (refl, omega arith) (refl, omega arith)

pub reset-keeps : (head : List ℕ) (time : ℕ) → Keeps head (timer_reset (timer_in head) time)
unfolding timer_reset timer_new timer_in
reset-keeps head time = (refl, omega arith)

-- ---- how many entries the tables have
pub links-length : (head links : List ℕ) → length (links_in head links) ≡ link_count head
unfolding links_in
links-length head links = lines-length link_width link_in (link_count head) links

pub searches-length : (head searches : List ℕ) → length (searches_in head searches) ≡ search_count head
unfolding searches_in
searches-length head searches = lines-length search_width search_in (search_count head) searches

pub searches-free : (head searches : List ℕ) (n : ℕ) → n ≡ search_count head → leb subscriptions_max (length (searches_in head searches)) ≡ false → n < subscriptions_max
searches-free head searches n e f = omega (arith, searches-length head searches, leb-false subscriptions_max (length (searches_in head searches)) f)

-- ---- a name by where it stands
room-left : (b t : Bool) → (not b && t) ≡ false → b ≡ false → t ≡ false
room-left true t e f = absurd (true≢false f)
room-left false t e f = e

module _ (head numbers texts : List ℕ) (name : Text) (spot : Result ℕ ℕ) (s : Spotted advertised name (names_in head numbers texts) spot) where
  pub spot_lt : is_ok spot ≡ true → (place spot) < name_count head
  spot_lt k = omega (arith, s.at, names-length head numbers texts, known-lt advertised name (names_in head numbers texts) (sym s.known ∙ k))

  pub spot_le : (place spot) ≤ name_count head
  spot_le = omega (arith, s.at, names-length head numbers texts, rank-le advertised name (names_in head numbers texts))

  pub spot_free : (not (known advertised name (names_in head numbers texts)) && leb advertisements_max (length (names_in head numbers texts))) ≡ false →
      is_ok spot ≡ false → name_count head < advertisements_max
  spot_free e k =
      omega (
        arith,
        names-length head numbers texts,
        leb-false advertisements_max (length (names_in head numbers texts)) (room-left (known advertised name (names_in head numbers texts)) _ e (sym s.known ∙ k)),
      )

  entry-spotted : entry_of advertised name (names_in head numbers texts) ≡ cond (is_ok spot) (entry_at (place spot) numbers texts ∷ []) []
  entry-spotted = go (is_ok spot) refl
    where
      go : (b : Bool) → is_ok spot ≡ b → entry_of advertised name (names_in head numbers texts) ≡ cond b (entry_at (place spot) numbers texts ∷ []) []
      go true k =
          entry_known advertised name (names_in head numbers texts) blank (sym s.known ∙ k)
          ∙ ap (λ (i : ℕ). get_or (names_in head numbers texts) i blank ∷ []) (sym s.at)
          ∙ ap (λ (x : Advertisement). x ∷ []) (name-is head numbers texts (place spot) (spot_lt k))
      go false k = entry-unknown advertised name (names_in head numbers texts) (sym s.known ∙ k)

  -- its waiting reply and its byebyes
  pub dropped-is : cond (is_ok spot) (waits (reply_at (place spot) numbers)) 0 ≡ waiting (entry_of advertised name (names_in head numbers texts))
  unfolding waiting sum_of entry_in
  dropped-is = go (is_ok spot) ∙ ap waiting (sym entry-spotted)
    where
      go : (b : Bool) → cond b (waits (reply_at (place spot) numbers)) 0 ≡ waiting (cond b (entry_at (place spot) numbers texts ∷ []) [])
      go true = sym (add-zero (waits (reply_at (place spot) numbers)))
      go false = refl

  pub byebyes_are : (up : List ℕ) → cond (is_ok spot) (byebye_on up (entry_at (place spot) numbers texts)) [] ≡ flat (byebye_on up) (entry_of advertised name (names_in head numbers texts))
  byebyes_are up = flat-one (byebye_on up) (is_ok spot) (entry_at (place spot) numbers texts) ∙ ap (flat (byebye_on up)) (sym entry-spotted)

  -- the names after it was put over the one that is held, was put in, or was taken out
  module _ (n : ℕ) (count : n ≡ name_count head) (numbers' texts' : List ℕ) where
    pub entered-over : (service location : Text) → is_ok spot ≡ true →
        entries n numbers' texts' ≡ set (entries n numbers texts) (place spot) (newcomer name service location) →
        NamesAfter n numbers' texts' (enter advertised (newcomer name service location) (names_in head numbers texts))
    unfolding names_in
    entered-over service location k r = record {
      few = omega arith;
      rows = r ∙ (λ i. set (entries (count i) numbers texts) (s.at i) (newcomer name service location)) ∙ sym (enter-known advertised (newcomer name service location) (names_in head numbers texts) (sym s.known ∙ k));
    }

    pub entered-in : (service location : Text) → is_ok spot ≡ false → n < advertisements_max →
        entries (suc n) numbers' texts' ≡ insert_at (place spot) (newcomer name service location) (entries n numbers texts) →
        NamesAfter (n + 1) numbers' texts' (enter advertised (newcomer name service location) (names_in head numbers texts))
    unfolding names_in
    entered-in service location k h r = record {
      few = omega arith;
      rows = ap (λ (m : ℕ). entries m numbers' texts') (add-one n) ∙ r ∙ (λ i. insert_at (s.at i) (newcomer name service location) (entries (count i) numbers texts))
          ∙ sym (enter-unknown advertised (newcomer name service location) (names_in head numbers texts) (sym s.known ∙ k));
    }

    pub left_out : is_ok spot ≡ true → entries (n - 1) numbers' texts' ≡ remove_at (place spot) (entries n numbers texts) →
        NamesAfter (n - 1) numbers' texts' (leave advertised name (names_in head numbers texts))
    unfolding names_in
    left_out k r = record {
      few = omega arith;
      rows = r ∙ (λ i. remove_at (s.at i) (entries (count i) numbers texts)) ∙ sym (leave-known advertised name (names_in head numbers texts) (sym s.known ∙ k));
    }

  pub left_same : (n : ℕ) → n ≡ name_count head → is_ok spot ≡ false → NamesAfter n numbers texts (leave advertised name (names_in head numbers texts))
  unfolding names_in
  left_same n count k = record {
    few = omega arith;
    rows = ap (λ (m : ℕ). entries m numbers texts) count ∙ sym (leave-unknown advertised name (names_in head numbers texts) (sym s.known ∙ k));
  }
