-- The claim is about every list: each list of calls whose numbers are in the range of their types has its log, with any outboxes of the lengths that the calls bear.
-- Behind each call the arrays are those that `engine_of` makes of what is held: so an array that a call does not change is the one that came. A call that is not lent
-- an array answers the same whatever stands there; that is what `Given` asks for of a set of functions, and the functions' contracts give it.
use mathlib.Core.Path.{◌≡◌, refl, sym, ◌∙◌, ap, subst}
use mathlib.Core.List.{List, [], ◌∷◌, map}
use Prim.Native.Nat.{ℕ, zero, suc}
use lib.ListN.{length}
use Rattle.message.specs.Parse.{parsed}
use Rattle.engine.specs.Rows.{rows}
use Rattle.engine.specs.Held.{Held, fresh}
use Rattle.engine.specs.Calls.{Call, NewLink, DeletedLink, NewAddress, DeletedAddress, Subscribe, Advertise, Deadvertise, Refresh, Datagram, Timeout, ResetTimer, acts, zeros}
use Rattle.engine.specs.Links.{context_after}
use Rattle.engine.specs.Records.{flat, records}
use Rattle.engine.specs.Layout.{layout, written}
use Rattle.engine.specs.Replies.{served, result, results}
use Rattle.engine.specs.Need.{need, record_count}
use Rattle.engine.specs.Refusals.{checks, refusal, new_refusal}
use Rattle.engine.specs.Engine.{names_of, refusal_of, poll, notifies, refused_by, accepted, new_step}
use Rattle.engine.specs.Arrays.{Engine, engine, held}
use Rattle.engine.specs.Promises.{Answers, Begins, Answered, answered}
use Rattle.claims.specs.Claim.{Log, new, call}
use Rattle.claims.specs.EveryList.{Word, SenderFits, InRange, Lends, Lent, outboxes_of, SizedIn, Logged}
use Rattle.engine.specs.declared.advertisement.Endpoint.{Endpoint}
use Rattle.engine.specs.declared.answer.Answer.{Answer}
use Rattle.claims.proofs.Storing.{Fits, head_of, link_array, search_array, number_array, text_array, engine_of, head-back, held_back, all-sized, texts-kept}
use Rattle.claims.proofs.Ranges.{fits_fresh, fits-accepted}
use Rattle.claims.proofs.OtherContents.{refusing, accepting, answer-same, other, L, S, N, T, links_on, searches_on, names_on, on-links, on-searches, on_texts, on_both, on-all, waiting-on, soonest-on, asked-length}

-- ---- what a set of functions gives: each call, on any contents of the arrays that are lent to it, whenever its contract is met
pub record Given (New : ℕ → ℕ → Answered → Type 0) (Gives : Engine → Call → List ℕ → List ℕ → Answered → Type 0) : Type 0 where
  pub by-new : (seed time : ℕ) (head' numbers : List ℕ) (r : Answer) →
      ((links searches texts : List ℕ) → Begins seed time (answered (engine head' links searches numbers texts) r)) →
      (links searches texts : List ℕ) → New seed time (answered (engine head' links searches numbers texts) r)
  pub by-new-link : (head head' links links' searches numbers texts : List ℕ) (index flags outcome : ℕ) (o o' : List ℕ) (r : Answer) →
      Answers (engine head links searches numbers texts) (NewLink index flags outcome (length o)) o o' (answered (engine head' links' searches numbers texts) r) →
      Gives (engine head links searches numbers texts) (NewLink index flags outcome (length o)) o o' (answered (engine head' links' searches numbers texts) r)
  pub by-deleted_link : (head head' links links' numbers : List ℕ) (index outcome : ℕ) (r : Answer) →
      ((searches texts : List ℕ) → Answers (engine head links searches numbers texts) (DeletedLink index outcome) [] [] (answered (engine head' links' searches numbers texts) r)) →
      (searches texts : List ℕ) → Gives (engine head links searches numbers texts) (DeletedLink index outcome) [] [] (answered (engine head' links' searches numbers texts) r)
  pub by-new-address : (head head' links links' searches numbers texts : List ℕ) (index : ℕ) (a o o' : List ℕ) (r : Answer) →
      Answers (engine head links searches numbers texts) (NewAddress index a (length o)) o o' (answered (engine head' links' searches numbers texts) r) →
      Gives (engine head links searches numbers texts) (NewAddress index a (length o)) o o' (answered (engine head' links' searches numbers texts) r)
  pub by-deleted_address : (head head' links links' numbers : List ℕ) (index : ℕ) (a : List ℕ) (r : Answer) →
      ((searches texts : List ℕ) → Answers (engine head links searches numbers texts) (DeletedAddress index a) [] [] (answered (engine head' links' searches numbers texts) r)) →
      (searches texts : List ℕ) → Gives (engine head links searches numbers texts) (DeletedAddress index a) [] [] (answered (engine head' links' searches numbers texts) r)
  pub by-subscribe : (head head' links searches searches' numbers : List ℕ) (service o o' : List ℕ) (r : Answer) →
      ((texts : List ℕ) → Answers (engine head links searches numbers texts) (Subscribe service (length o)) o o' (answered (engine head' links searches' numbers texts) r)) →
      (texts : List ℕ) → Gives (engine head links searches numbers texts) (Subscribe service (length o)) o o' (answered (engine head' links searches' numbers texts) r)
  pub by-advertise : (head head' links numbers numbers' texts texts' : List ℕ) (name service location o o' : List ℕ) (r : Answer) →
      ((searches : List ℕ) → Answers (engine head links searches numbers texts) (Advertise name service location (length o)) o o' (answered (engine head' links searches numbers' texts') r)) →
      (searches : List ℕ) →
      Gives (engine head links searches numbers texts) (Advertise name service location (length o)) o o' (answered (engine head' links searches numbers' texts') r)
  pub by-deadvertise : (head head' links numbers numbers' texts texts' : List ℕ) (name o o' : List ℕ) (r : Answer) →
      ((searches : List ℕ) → Answers (engine head links searches numbers texts) (Deadvertise name (length o)) o o' (answered (engine head' links searches numbers' texts') r)) →
      (searches : List ℕ) → Gives (engine head links searches numbers texts) (Deadvertise name (length o)) o o' (answered (engine head' links searches numbers' texts') r)
  pub by-refresh : (head links searches numbers texts : List ℕ) (o o' : List ℕ) (r : Answer) →
      Answers (engine head links searches numbers texts) (Refresh (length o)) o o' (answered (engine head links searches numbers texts) r) →
      Gives (engine head links searches numbers texts) (Refresh (length o)) o o' (answered (engine head links searches numbers texts) r)
  pub by-on-data : (head searches numbers numbers' texts texts' : List ℕ) (time : ℕ) (sender : Endpoint) (receiver : ℕ) (d : List ℕ) (r : Answer) →
      ((links : List ℕ) → Answers (engine head links searches numbers texts) (Datagram time sender receiver d) [] [] (answered (engine head links searches numbers' texts') r)) →
      (links : List ℕ) → Gives (engine head links searches numbers texts) (Datagram time sender receiver d) [] [] (answered (engine head links searches numbers' texts') r)
  pub by-handle_timeout : (head head' links searches numbers numbers' texts : List ℕ) (time : ℕ) (o o' : List ℕ) (r : Answer) →
      Answers (engine head links searches numbers texts) (Timeout time (length o)) o o' (answered (engine head' links searches numbers' texts) r) →
      Gives (engine head links searches numbers texts) (Timeout time (length o)) o o' (answered (engine head' links searches numbers' texts) r)
  pub by-reset : (head head' numbers : List ℕ) (time : ℕ) (r : Answer) →
      ((links searches texts : List ℕ) → Answers (engine head links searches numbers texts) (ResetTimer time) [] [] (answered (engine head' links searches numbers texts) r)) →
      (links searches texts : List ℕ) → Gives (engine head links searches numbers texts) (ResetTimer time) [] [] (answered (engine head' links searches numbers texts) r)

-- a call that has an answer: what is held after it, the outbox, and that the functions give it
pub record Stepped (Gives : Engine → Call → List ℕ → List ℕ → Answered → Type 0) (h : Held) (c : Call) (outbox : List ℕ) : Type 0 where
  pub after : Held
  pub fits : Fits after
  pub outbox' : List ℕ
  pub answer : Answer
  pub gives : Gives (engine_of h) c outbox outbox' (answered (engine_of after) answer)

-- `new` leaves an engine that has just begun, whatever stands in the arrays that it is not lent
fresh-held : (seed time : ℕ) → Word seed → (links searches numbers texts : List ℕ) → held (engine (head_of (fresh seed time)) links searches numbers texts) ≡ fresh seed time
unfolding fresh rows
fresh-held seed time w links searches numbers texts = head-back (fresh seed time) (fits_fresh seed time w) links searches numbers texts

begin-with : {New : ℕ → ℕ → Answered → Type 0} {Gives : Engine → Call → List ℕ → List ℕ → Answered → Type 0} (given : Given New Gives) (seed time : ℕ) → Word seed →
    (at k : ℕ) → new_refusal time ≡ k → (new_step k seed time).after ≡ fresh seed at → (h : Held) × Fits h × (r : Answer) × New seed time (answered (engine_of h) r)
begin-with given seed time w at k e a =
    let h = fresh seed at in
    let r = (new_step k seed time).answer in (
      h,
      fits_fresh seed at w,
      r,
      given.by-new seed time (head_of h) (number_array h.advertisements) r
          (λ links searches texts. record {
            answer = ap (λ (n : ℕ). (new_step n seed time).answer) (sym e);
            engine = fresh-held seed at w links searches (number_array h.advertisements) texts ∙ sym a ∙ ap (λ (n : ℕ). (new_step n seed time).after) (sym e);
          })
          (link_array h.context.links) (search_array h.context.subscriptions) (text_array h.advertisements),
    )

module _ {New : ℕ → ℕ → Answered → Type 0} {Gives : Engine → Call → List ℕ → List ℕ → Answered → Type 0} (given : Given New Gives) where
  -- a call is accepted or refused
  cases : (h : Held) → Fits h → (c : Call) (o : List ℕ) → InRange c →
      (refusal_of h c ≡ 0 → Fits (accepted h c).after →
      Gives (engine_of h) c o (written (accepted h c).sent o) (answered (engine_of (accepted h c).after) (accepted h c).answer)) →
      ((k : ℕ) → refusal_of h c ≡ suc k → Gives (engine_of h) c o o (answered (engine_of h) (refused_by (suc k) h).answer)) → Stepped Gives h c o
  cases h f c o i accept refuse = go (refusal_of h c) refl
    where
      go : (k : ℕ) → refusal_of h c ≡ k → Stepped Gives h c o
      go zero e = let f' = fits-accepted h c e i f in record { after = (accepted h c).after; fits = f'; outbox' = written (accepted h c).sent o; answer = (accepted h c).answer; gives = accept e f' }
      go (suc k) e = record { after = h; fits = f; outbox' = o; answer = (refused_by (suc k) h).answer; gives = refuse k e }

  module _ (h : Held) (f : Fits h) where
    -- ---- calls that are lent every array
    whole : (c : Call) (o : List ℕ) → refusal_of h c ≡ 0 → Fits (accepted h c).after →
        Answers (engine_of h) c o (written (accepted h c).sent o) (answered (engine_of (accepted h c).after) (accepted h c).answer)
    whole c o e f' = accepting (engine_of h) (engine_of (accepted h c).after) h c (held_back h f) e (held_back (accepted h c).after f') refl refl

    whole-refused : (c : Call) (o : List ℕ) (k : ℕ) → refusal_of h c ≡ suc k → Answers (engine_of h) c o o (answered (engine_of h) (refused_by (suc k) h).answer)
    whole-refused c o k e = refusing (engine_of h) h c k (held_back h f) e refl

    step-new-link : (index flags outcome : ℕ) (o : List ℕ) → Word index → Stepped Gives h (NewLink index flags outcome (length o)) o
    unfolding accepted context_after acts results
    step-new-link index flags outcome o i =
        let c = NewLink index flags outcome (length o) in
        cases h f c o i (λ e f'. given.by-new-link _ _ _ _ _ _ _ index flags outcome o _ _ (whole c o e f'))
        (λ k e. given.by-new-link _ _ _ _ _ _ _ index flags outcome o _ _ (whole-refused c o k e))

    step-new-address : (index : ℕ) (a o : List ℕ) → InRange (NewAddress index a (length o)) → Stepped Gives h (NewAddress index a (length o)) o
    unfolding accepted context_after acts results
    step-new-address index a o i =
        let c = NewAddress index a (length o) in
        cases h f c o i (λ e f'. given.by-new-address _ _ _ _ _ _ _ index a o _ _ (whole c o e f'))
        (λ k e. given.by-new-address _ _ _ _ _ _ _ index a o _ _ (whole-refused c o k e))

    step-refresh : (o : List ℕ) → Stepped Gives h (Refresh (length o)) o
    unfolding accepted context_after acts results
    step-refresh o =
        let c = Refresh (length o) in
        cases h f c o tt (λ e f'. given.by-refresh _ _ _ _ _ o _ _ (whole c o e f')) (λ k e. given.by-refresh _ _ _ _ _ o _ _ (whole-refused c o k e))

    -- a timeout leaves the texts
    step-timeout : (time : ℕ) (o : List ℕ) → Stepped Gives h (Timeout time (length o)) o
    unfolding accepted context_after acts results result served
    step-timeout time o =
        let c = Timeout time (length o) in
        let h' = (accepted h c).after in
        let same : text_array h'.advertisements ≡ T h f = texts-kept (served time) (λ a. (refl, refl, refl, refl)) h.advertisements in
        let after : List ℕ → Engine = λ texts. engine (head_of h') (L h f) (S h f) (number_array h'.advertisements) texts in
        cases h f c o tt
        (λ e f'. subst (λ (texts : List ℕ). Gives (engine_of h) c o (written (accepted h c).sent o) (answered (after texts) (accepted h c).answer)) (sym same)
        (given.by-handle_timeout _ _ _ _ _ _ _ time o _ _
        (subst (λ (texts : List ℕ). Answers (engine_of h) c o (written (accepted h c).sent o) (answered (after texts) (accepted h c).answer)) same (whole c o e f'))))
        (λ k e. given.by-handle_timeout _ _ _ _ _ _ _ time o _ _ (whole-refused c o k e))

    -- ---- calls that are not lent the subscriptions
    step-advertise : (name service location o : List ℕ) → Stepped Gives h (Advertise name service location (length o)) o
    unfolding accepted context_after acts results result refusal_of refusal checks need record_count names_of records notifies poll
    step-advertise name service location o =
        let c = Advertise name service location (length o) in
        let h' = (accepted h c).after in
        cases h f c o tt
        (λ e f'. given.by-advertise _ (head_of h') _ _ (N h' f') _ (T h' f') name service location o _ _
        (λ searches. accepting _ _ (g searches) c (on-searches h f searches) e (on-searches h' f' searches) refl refl) (S h f))
        (λ k e. given.by-advertise _ _ _ _ _ _ _ name service location o _ _ (λ searches. refusing _ (g searches) c k (on-searches h f searches) e refl) (S h f))
      where
        g : List ℕ → Held
        g searches = other h h.context.links (searches_on h f searches) h.advertisements

    step-deadvertise : (name o : List ℕ) → Stepped Gives h (Deadvertise name (length o)) o
    unfolding accepted context_after acts results result refusal_of refusal checks need record_count names_of records notifies poll
    step-deadvertise name o =
        let c = Deadvertise name (length o) in
        let h' = (accepted h c).after in
        cases h f c o tt
        (λ e f'. given.by-deadvertise _ (head_of h') _ _ (N h' f') _ (T h' f') name o _ _
        (λ searches. accepting _ _ (g searches) c (on-searches h f searches) e (on-searches h' f' searches) refl refl) (S h f))
        (λ k e. given.by-deadvertise _ _ _ _ _ _ _ name o _ _ (λ searches. refusing _ (g searches) c k (on-searches h f searches) e refl) (S h f))
      where
        g : List ℕ → Held
        g searches = other h h.context.links (searches_on h f searches) h.advertisements

    -- ---- and those that are not lent the texts
    same-refused : (k : ℕ) (texts : List ℕ) → (refused_by (suc k) h).answer ≡ (refused_by (suc k) (other h [] [] (names_on h f texts))).answer
    unfolding poll
    same-refused k texts = answer-same (suc k) 0 zeros _ h (other h [] [] (names_on h f texts)) (waiting-on h f texts) (soonest-on h f _ texts)

    step-subscribe : (service o : List ℕ) → Stepped Gives h (Subscribe service (length o)) o
    unfolding accepted context_after acts results result refusal_of refusal checks need record_count names_of records notifies poll
    step-subscribe service o =
        let c = Subscribe service (length o) in
        let h' = (accepted h c).after in
        cases h f c o tt
        (λ e f'. given.by-subscribe _ (head_of h') _ _ (S h' f') _ service o _ _
        (λ texts. accepting _ _ (g texts) c (on_texts h f texts) e (on_texts h' f' texts)
        (answer-same 0 _ _ _ h' (accepted (g texts) c).after (waiting-on h f texts) (soonest-on h f _ texts)) refl) (T h f))
        (λ k e. given.by-subscribe _ _ _ _ _ _ service o _ _ (λ texts. refusing _ (g texts) c k (on_texts h f texts) e (same-refused k texts)) (T h f))
      where
        g : List ℕ → Held
        g texts = other h h.context.links h.context.subscriptions (names_on h f texts)

    step-deleted_link : (index outcome : ℕ) → Stepped Gives h (DeletedLink index outcome) []
    unfolding accepted context_after acts results result refusal_of refusal checks names_of records notifies poll written layout flat
    step-deleted_link index outcome =
        let c = DeletedLink index outcome in
        let h' = (accepted h c).after in
        cases h f c [] tt
        (λ e f'. given.by-deleted_link _ (head_of h') _ (L h' f') _ index outcome _
        (λ searches texts. accepting _ _ (g searches texts) c (on_both h f searches texts) e (on_both h' f' searches texts)
        (answer-same 0 _ _ _ h' (accepted (g searches texts) c).after (waiting-on h f texts) (soonest-on h f _ texts)) refl) (S h f) (T h f))
        (λ k e. given.by-deleted_link _ _ _ _ _ index outcome _
        (λ searches texts. refusing _ (g searches texts) c k (on_both h f searches texts) e (same-refused k texts)) (S h f) (T h f))
      where
        g : List ℕ → List ℕ → Held
        g searches texts = other h h.context.links (searches_on h f searches) (names_on h f texts)

    step-deleted_address : (index : ℕ) (a : List ℕ) → Word index → Stepped Gives h (DeletedAddress index a) []
    unfolding accepted context_after acts results result refusal_of refusal checks names_of records notifies poll written layout flat
    step-deleted_address index a i =
        let c = DeletedAddress index a in
        let h' = (accepted h c).after in
        cases h f c [] i
        (λ e f'. given.by-deleted_address _ (head_of h') _ (L h' f') _ index a _
        (λ searches texts. accepting _ _ (g searches texts) c (on_both h f searches texts) e (on_both h' f' searches texts)
        (answer-same 0 _ _ _ h' (accepted (g searches texts) c).after (waiting-on h f texts) (soonest-on h f _ texts)) refl) (S h f) (T h f))
        (λ k e. given.by-deleted_address _ _ _ _ _ index a _
        (λ searches texts. refusing _ (g searches texts) c k (on_both h f searches texts) e (same-refused k texts)) (S h f) (T h f))
      where
        g : List ℕ → List ℕ → Held
        g searches texts = other h h.context.links (searches_on h f searches) (names_on h f texts)

    step-reset : (time : ℕ) → Stepped Gives h (ResetTimer time) []
    unfolding accepted context_after acts results result refusal_of refusal checks names_of records notifies poll written layout flat
    step-reset time =
        let c = ResetTimer time in
        let h' = (accepted h c).after in
        cases h f c [] tt
        (λ e f'. given.by-reset _ (head_of h') _ time _
        (λ links searches texts. accepting _ _ (g links searches texts) c (on-all h f links searches texts) e (on-all h' f' links searches texts)
        (answer-same 0 _ _ _ h' (accepted (g links searches texts) c).after (waiting-on h f texts) (soonest-on h f _ texts)) refl) (L h f) (S h f) (T h f))
        (λ k e. given.by-reset _ _ _ time _
        (λ links searches texts. refusing _ (g links searches texts) c k (on-all h f links searches texts) e (same-refused k texts)) (L h f) (S h f) (T h f))
      where
        g : List ℕ → List ℕ → List ℕ → Held
        g links searches texts = other h (links_on h f links) (searches_on h f searches) (names_on h f texts)

    -- ---- a datagram: not lent the links, and the head stays as it is
    step-on-data : (time : ℕ) (sender : Endpoint) (receiver : ℕ) (d : List ℕ) → SenderFits sender receiver → Stepped Gives h (Datagram time sender receiver d) []
    unfolding accepted context_after acts results refusal_of refusal checks names_of records notifies poll head_of written layout flat
    step-on-data time sender receiver d i =
        let c = Datagram time sender receiver d in
        let h' = (accepted h c).after in
        let r = (accepted h c).answer in
        let same : head_of h' ≡ head_of h =
        ap (λ (n : ℕ). h.context.seed ∷ h.context.timer.next_salvo ∷ h.context.timer.phase ∷ n ∷ length h.context.links ∷ length h.context.subscriptions ∷ [])
        (asked-length h.context.seed h.advertisements time sender receiver d (parsed d).message) in
        let after : List ℕ → List ℕ → Engine = λ head links. engine head links (S h f) (number_array h'.advertisements) (text_array h'.advertisements) in
        cases h f c [] i
        (λ e f'. subst (λ (head : List ℕ). Gives (engine_of h) c [] [] (answered (after head (L h f)) r)) (sym same)
        (given.by-on-data _ _ _ _ _ _ time sender receiver d r
        (λ links. subst (λ (head : List ℕ). Answers (engine (head_of h) links (S h f) (N h f) (T h f)) c [] [] (answered (after head links) r)) same
        (accepting _ _ (g links) c (on-links h f links) e (on-links h' f' links) refl refl)) (L h f)))
        (λ k e. given.by-on-data _ _ _ _ _ _ time sender receiver d _ (λ links. refusing _ (g links) c k (on-links h f links) e refl) (L h f))
      where
        g : List ℕ → Held
        g links = other h (links_on h f links) h.context.subscriptions h.advertisements

  -- ---- each call has its answer, on an outbox of the length that the call bears
  pub step_of : (h : Held) → Fits h → (c : Call) (outbox : List ℕ) → InRange c → Lends c outbox → Stepped Gives h c outbox
  step_of h f (NewLink index flags outcome room) o i l =
      subst (λ (n : ℕ). Stepped Gives h (NewLink index flags outcome n) o) (sym l) (step-new-link h f index flags outcome o i)
  step_of h f (DeletedLink index outcome) o i l = subst (Stepped Gives h (DeletedLink index outcome)) (sym l) (step-deleted_link h f index outcome)
  step_of h f (NewAddress index address room) o i l = subst (λ (n : ℕ). Stepped Gives h (NewAddress index address n) o) (sym l) (step-new-address h f index address o i)
  step_of h f (DeletedAddress index address) o i l = subst (Stepped Gives h (DeletedAddress index address)) (sym l) (step-deleted_address h f index address i)
  step_of h f (Subscribe service room) o i l = subst (λ (n : ℕ). Stepped Gives h (Subscribe service n) o) (sym l) (step-subscribe h f service o)
  step_of h f (Advertise name service location room) o i l =
      subst (λ (n : ℕ). Stepped Gives h (Advertise name service location n) o) (sym l) (step-advertise h f name service location o)
  step_of h f (Deadvertise name room) o i l = subst (λ (n : ℕ). Stepped Gives h (Deadvertise name n) o) (sym l) (step-deadvertise h f name o)
  step_of h f (Refresh room) o i l = subst (λ (n : ℕ). Stepped Gives h (Refresh n) o) (sym l) (step-refresh h f o)
  step_of h f (Datagram time sender receiver s) o i l =
      subst (Stepped Gives h (Datagram time sender receiver s)) (sym l) (step-on-data h f time sender receiver s i)
  step_of h f (Timeout time room) o i l = subst (λ (n : ℕ). Stepped Gives h (Timeout time n) o) (sym l) (step-timeout h f time o)
  step_of h f (ResetTimer time) o i l = subst (Stepped Gives h (ResetTimer time)) (sym l) (step-reset h f time)

  -- `new`, on arrays of any content
  begin-of : (seed time : ℕ) → Word seed → (h : Held) × Fits h × (r : Answer) × New seed time (answered (engine_of h) r)
  begin-of seed time w = go (new_refusal time) refl
    where
      go : (k : ℕ) → new_refusal time ≡ k → (h : Held) × Fits h × (r : Answer) × New seed time (answered (engine_of h) r)
      go zero e = begin-with given seed time w time zero e refl
      go (suc k) e = begin-with given seed time w 0 (suc k) e refl

  -- every list has its log
  record Kept (seed time : ℕ) (lent : List (Call × List ℕ)) : Type 0 where
    state : Held
    fits : Fits state
    answers : List Answer
    log : Log New Gives seed time (map (λ p. p.0) lent) answers (engine_of state)
    outboxes : outboxes_of log ≡ map (λ p. p.1) lent
    sizes : SizedIn log

  kept_of : (seed time : ℕ) → Word seed → (lent : List (Call × List ℕ)) → Lent lent → Kept seed time lent
  kept_of seed time w [] i =
      let b = begin-of seed time w in
      record { state = b.0; fits = b.1; answers = b.2 ∷ []; log = new b.3; outboxes = refl; sizes = all-sized b.0 b.1 }
  kept_of seed time w (p ∷ lent) i =
      let k = kept_of seed time w lent i.2 in
      let s = step_of k.state k.fits p.0 p.1 i.0 i.1 in
      record {
        state = s.after;
        fits = s.fits;
        answers = s.answer ∷ k.answers;
        log = call k.log s.gives;
        outboxes = ap (λ (l : List (List ℕ)). p.1 ∷ l) k.outboxes;
        sizes = (all-sized s.after s.fits, k.sizes);
      }

  pub log-of : (seed time : ℕ) → Word seed → (lent : List (Call × List ℕ)) → Lent lent → Logged New Gives seed time lent
  log-of seed time w lent i =
      let k = kept_of seed time w lent i in
      record { answers = k.answers; last = engine_of k.state; log = k.log; outboxes = k.outboxes; sizes = k.sizes }
