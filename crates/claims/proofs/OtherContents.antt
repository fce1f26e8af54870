-- What a call answers on arrays of other contents: one that is not lent an array answers the same whatever stands there.
use mathlib.Core.Path.{◌≡◌, refl, sym, ◌∙◌, ap}
use mathlib.Core.List.{List, []}
use mathlib.Core.Option.{Option, none, some}
use Prim.Native.Nat.{ℕ, zero, suc, ◌+◌}
use lib.ListN.{length, take, drop, length-map}
use Rattle.message.specs.declared.Message.{Message}
use Rattle.message.specs.declared.Message.TheVariants.{NotifyAlive, NotifyByeBye, Search, Response}
use Rattle.engine.specs.Rows.{rows}
use Rattle.engine.specs.Held.{Text, Link, Advertisement, Held, holding}
use Rattle.engine.specs.Calls.{Call, asks, Counts}
use Rattle.engine.specs.Records.{flat}
use Rattle.engine.specs.Layout.{layout, written}
use Rattle.engine.specs.Replies.{sum_of, waits, waiting, sooner, soonest, result, results}
use Rattle.engine.specs.Engine.{refusal_of, poll, Notified, Step, answer_with, refused_by, accepted, unless, step}
use Rattle.engine.specs.Arrays.{numbers_width, texts_width, link_rows, search_rows, reply_in, entry_in, entries, Engine, engine, held}
use Rattle.engine.specs.Promises.{Answers, answered}
use Rattle.engine.specs.declared.advertisement.Endpoint.{Endpoint}
use Rattle.engine.specs.declared.answer.Answer.{Answer}
use Rattle.claims.proofs.Storing.{Fits, head_of, link_array, search_array, number_array, text_array, head-back, links-back, searches-back, names-back}

-- ---- arrays that hold g before a call and what it leaves after it
answering : (t t' : Engine) (g : Held) (c : Call) (s : Step) {outbox outbox' : List ℕ} {r : Answer} → held t ≡ g → step g c ≡ s → held t' ≡ s.after → r ≡ s.answer →
    outbox' ≡ written s.sent outbox → ((refusal_of g c ≡ 0 → ⊥) → t' ≡ t) → Answers t c outbox outbox' (answered t' r)
answering t t' g c s {outbox} e p a r o u =
    let q : step (held t) c ≡ s = ap (λ (h : Held). step h c) e ∙ p in
    record {
      answer = r ∙ sym (ap (λ (x : Step). x.answer) q);
      engine = a ∙ sym (ap (λ (x : Step). x.after) q);
      sent = o ∙ sym (ap (λ (x : Step). written x.sent outbox) q);
      untouched = λ n. u (λ z. n (ap (λ (h : Held). refusal_of h c) e ∙ z));
    }

step_is : (g : Held) (c : Call) (k : ℕ) → refusal_of g c ≡ k → step g c ≡ unless k g (accepted g c)
unfolding step
step_is g c k e = ap (λ (n : ℕ). unless n g (accepted g c)) e

nothing-sent : (outbox : List ℕ) → outbox ≡ written [] outbox
unfolding written layout flat
nothing-sent outbox = refl

-- refused: the very arrays
pub refusing : (t : Engine) (g : Held) (c : Call) (k : ℕ) {outbox : List ℕ} {r : Answer} → held t ≡ g → refusal_of g c ≡ suc k → r ≡ (refused_by (suc k) g).answer → Answers t c outbox outbox (answered t r)
refusing t g c k {outbox} e p r = answering t t g c (refused_by (suc k) g) e (step_is g c (suc k) p) e r (nothing-sent outbox) (λ _. refl)

-- accepted
pub accepting : (t t' : Engine) (g : Held) (c : Call) {outbox outbox' : List ℕ} {r : Answer} → held t ≡ g → refusal_of g c ≡ 0 → held t' ≡ (accepted g c).after → r ≡ (accepted g c).answer →
    outbox' ≡ written (accepted g c).sent outbox → Answers t c outbox outbox' (answered t' r)
accepting t t' g c e p a r o = answering t t' g c (accepted g c) e (step_is g c 0 p) a r o (λ n. absurd (n p))

-- ---- replies do not depend on texts
waiting-same : (n : ℕ) (ns ts us : List ℕ) → waiting (entries n ns ts) ≡ waiting (entries n ns us)
unfolding rows waiting sum_of entry_in
waiting-same zero ns ts us = refl
waiting-same (suc n) ns ts us = ap (λ (x : ℕ). waits (reply_in (take numbers_width ns)) + x) (waiting-same n (drop numbers_width ns) (drop texts_width ts) (drop texts_width us))

soonest-same : (n t : ℕ) (ns ts us : List ℕ) → soonest t (entries n ns ts) ≡ soonest t (entries n ns us)
unfolding rows soonest entry_in
soonest-same zero t ns ts us = refl
soonest-same (suc n) t ns ts us = soonest-same n (sooner t (reply_in (take numbers_width ns))) (drop numbers_width ns) (drop texts_width ts) (drop texts_width us)

-- so an answer is the same
pub answer-same : (number count : ℕ) (c : Counts) (t : Notified) (a b : Held) → waiting a.advertisements ≡ waiting b.advertisements → poll a ≡ poll b →
    answer_with number count c a t ≡ answer_with number count c b t
answer-same number count c t a b w p = λ j. record {
  refusal = number;
  records = count;
  matched = c.matched;
  joined = c.joined;
  alone = c.alone;
  group = c.group;
  dropped = c.dropped;
  waiting = w j;
  poll = p j;
  mask = t.mask;
  told = t.number;
  leave = t.leave;
}

-- what is held if one array has other contents
abbrev pub other : Held → List Link → List Text → List Advertisement → Held
other h ls ts as' = holding h.context.seed h.context.timer ls ts as'

module _ (h : Held) (f : Fits h) where
  abbrev pub L : List ℕ
  L = link_array h.context.links

  abbrev pub S : List ℕ
  S = search_array h.context.subscriptions

  abbrev pub N : List ℕ
  N = number_array h.advertisements

  abbrev pub T : List ℕ
  T = text_array h.advertisements

  abbrev pub links_on : List ℕ → List Link
  links_on links = link_rows (length h.context.links) links

  abbrev pub searches_on : List ℕ → List Text
  searches_on searches = search_rows (length h.context.subscriptions) searches

  abbrev pub names_on : List ℕ → List Advertisement
  names_on texts = entries (length h.advertisements) N texts

  pub on-links : (links : List ℕ) → held (engine (head_of h) links S N T) ≡ other h (links_on links) h.context.subscriptions h.advertisements
  on-links links = head-back h f links S N T ∙ (λ j. other h (links_on links) (searches-back h f j) (names-back h f j))

  pub on-searches : (searches : List ℕ) → held (engine (head_of h) L searches N T) ≡ other h h.context.links (searches_on searches) h.advertisements
  on-searches searches = head-back h f L searches N T ∙ (λ j. other h (links-back h f j) (searches_on searches) (names-back h f j))

  pub on_texts : (texts : List ℕ) → held (engine (head_of h) L S N texts) ≡ other h h.context.links h.context.subscriptions (names_on texts)
  on_texts texts = head-back h f L S N texts ∙ (λ j. other h (links-back h f j) (searches-back h f j) (names_on texts))

  pub on_both : (searches texts : List ℕ) → held (engine (head_of h) L searches N texts) ≡ other h h.context.links (searches_on searches) (names_on texts)
  on_both searches texts = head-back h f L searches N texts ∙ (λ j. other h (links-back h f j) (searches_on searches) (names_on texts))

  pub on-all : (links searches texts : List ℕ) → held (engine (head_of h) links searches N texts) ≡ other h (links_on links) (searches_on searches) (names_on texts)
  on-all links searches texts = head-back h f links searches N texts

  pub waiting-on : (texts : List ℕ) → waiting h.advertisements ≡ waiting (names_on texts)
  waiting-on texts = sym (ap waiting (names-back h f)) ∙ waiting-same (length h.advertisements) N T texts

  pub soonest-on : (t : ℕ) (texts : List ℕ) → soonest t h.advertisements ≡ soonest t (names_on texts)
  soonest-on t texts = sym (ap (soonest t) (names-back h f)) ∙ soonest-same (length h.advertisements) t N T texts

-- a datagram brings no name and takes none
pub asked-length : (seed : ℕ) (as' : List Advertisement) (time : ℕ) (sender : Endpoint) (receiver : ℕ) (s : List ℕ) (m : Option Message) →
    length (results seed as' (asks time sender receiver s m)).advertisements ≡ length as'
unfolding results result
asked-length seed as' time sender receiver s none = refl
asked-length seed as' time sender receiver s (some (NotifyAlive nt usn l)) = refl
asked-length seed as' time sender receiver s (some (NotifyByeBye nt usn)) = refl
asked-length seed as' time sender receiver s (some (Search st mx)) = length-map as' _
asked-length seed as' time sender receiver s (some (Response st usn l)) = refl
