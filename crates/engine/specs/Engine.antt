-- A call on what is held: the answer, what is held after it, and what it sends (document 01, 'Who can be turned away'). The contracts of the public calls cite it through specs/Promises.antt.
use Rattle.std.specs.Prelude.{ℕ, zero, suc, ◌+◌, ◌*◌, cond, List, [], ◌∷◌, length}
use Rattle.std.proofs.Math.Option.{Option, none, some}
use Rattle.message.specs.Parse.{parsed, field_at}
use Rattle.message.specs.declared.Message.{Message}
use Rattle.engine.specs.Reading.{Subject, Asking, Notice, subject_of}
use Rattle.engine.specs.Table.{known}
use Rattle.engine.specs.Target.{target_match}
use Rattle.engine.specs.Held.{Text, Context, Held, Advertisement, fresh, advertised, by_index}
use Rattle.engine.specs.Calls.{Call, NewLink, DeletedLink, NewAddress, DeletedAddress, Subscribe, Advertise, Deadvertise, Refresh, Datagram, Timeout, ResetTimer, Counts, zeros, acts}
use Rattle.engine.specs.Links.{context_after}
use Rattle.engine.specs.Records.{Record, records}
use Rattle.engine.specs.Replies.{sum_of, one, waiting, soonest, alone_at, group_at, results}
use Rattle.engine.specs.Need.{Names, need}
use Rattle.engine.specs.Refusals.{refusal}
use Rattle.engine.specs.declared.answer.Answer.{Answer}

-- what refusals look at of the names; the replies due are those that a handle_timeout counts
unfoldable pub names_of : List Advertisement → Names
names_of as' = record {
  holds = λ name. known advertised name as';
  count = length as';
  alone = λ time. sum_of (alone_at time) as';
  group = λ time. sum_of (group_at time) as';
}

-- the room that a call needs, and its refusal, on what is held
abbrev pub need_of : Held → Call → ℕ
need_of h c = need h.context (names_of h.advertisements) c

unfoldable pub refusal_of : Held → Call → ℕ
refusal_of h c = refusal h.context (names_of h.advertisements) c

-- poll: the least of the salvo instant and every wait's
unfoldable pub poll : Held → ℕ
poll h = soonest h.context.timer.next_salvo h.advertisements

-- bit k is set when subscription k, as the search, matches the type; the number told is the count of those that do
unfoldable pub mask_of : List Text → Text → ℕ
mask_of [] service = 0
mask_of (s ∷ ss) service = one (target_match s service) + 2 * mask_of ss service

unfoldable pub told_of : List Text → Text → ℕ
told_of [] service = 0
told_of (s ∷ ss) service = one (target_match s service) + told_of ss service

-- whom a call notifies, and the leave outcome, which is answered for a link that was held
pub record Notified : Type 0 where
  pub mask : ℕ
  pub number : ℕ
  pub leave : ℕ

abbrev pub notifies_nobody : Notified
notifies_nobody = record { mask = 0; number = 0; leave = 0 }

abbrev pub notifies_about : List Text → Text → Notified
notifies_about subscriptions service = record { mask = mask_of subscriptions service; number = told_of subscriptions service; leave = 0 }

-- subscribers are told of the NT or ST of a notify or response; a search notifies nobody
abbrev pub notifies_by : List Text → List ℕ → Subject → Notified
notifies_by subscriptions s (Asking st mx) = notifies_nobody
notifies_by subscriptions s (Notice t) = notifies_about subscriptions (field_at s t)

abbrev pub notifies_of : List Text → List ℕ → Option Message → Notified
notifies_of subscriptions s none = notifies_nobody
notifies_of subscriptions s (some m) = notifies_by subscriptions s (subject_of m)

unfoldable pub notifies : Context → Call → Notified
notifies x (NewLink index flags outcome room) = notifies_nobody
notifies x (DeletedLink index outcome) = record { mask = 0; number = 0; leave = cond (known by_index index x.links) outcome 0 }
notifies x (NewAddress index address room) = notifies_nobody
notifies x (DeletedAddress index address) = notifies_nobody
notifies x (Subscribe service room) = notifies_nobody
notifies x (Advertise name service location room) = notifies_nobody
notifies x (Deadvertise name room) = notifies_nobody
notifies x (Refresh room) = notifies_nobody
notifies x (Datagram time sender receiver s) = notifies_of x.subscriptions s (parsed s).message
notifies x (Timeout time room) = notifies_nobody
notifies x (ResetTimer time) = notifies_nobody

-- what a call leaves held and sends, and what it answers
pub record Step : Type 0 where
  pub after : Held
  pub sent : List Record
  pub answer : Answer

abbrev pub answer_with : ℕ → ℕ → Counts → Held → Notified → Answer
answer_with number count c after t = record {
  refusal = number;
  records = count;
  matched = c.matched;
  joined = c.joined;
  alone = c.alone;
  group = c.group;
  dropped = c.dropped;
  waiting = waiting after.advertisements;
  poll = poll after;
  mask = t.mask;
  told = t.number;
  leave = t.leave;
}

-- refused: nothing sent, the waiting and poll of the untouched engine, and 0 for all else
abbrev pub refused_by : ℕ → Held → Step
refused_by number h = record { after = h; sent = []; answer = answer_with number 0 zeros h notifies_nobody }

unfoldable pub accepted : Held → Call → Step
accepted h c =
    let r = results h.context.seed h.advertisements (acts c) in
    let after : Held = record { context = context_after h.context c; advertisements = r.advertisements } in
    let sent = records h.context h.advertisements c in
    record {
      after = after;
      sent = sent;
      answer = answer_with 0 (length sent) r.counts after (notifies h.context c);
    }

abbrev pub unless : ℕ → Held → Step → Step
unless zero h s = s
unless (suc k) h s = refused_by (suc k) h

unfoldable pub step : Held → Call → Step
step h c = unless (refusal_of h c) h (accepted h c)

-- and `new`: a refused one gives an engine with that seed at time 0
abbrev pub new_step : ℕ → ℕ → ℕ → Step
new_step zero seed time = record { after = fresh seed time; sent = []; answer = answer_with 0 0 zeros (fresh seed time) notifies_nobody }
new_step (suc k) seed time = refused_by (suc k) (fresh seed 0)
