-- What holds of every engine that came from `new` by calls: the tables are ordered and within their sizes, and every text held is good and within its size.
-- `new` begins so, and each call, accepted or refused, keeps it.
use mathlib.Core.Path.{◌≡◌, refl, sym, ap}
use mathlib.Core.Bool.{Bool, true, false, cond, not, ◌&&◌, true≢false}
use mathlib.Core.List.{List, [], ◌∷◌, ◌++◌}
use Prim.Native.Nat.{ℕ, zero, suc, ◌+◌, ◌-◌, ◌≤◌}
use native.Mathlib.Omega.{arith}
use lib.Dec.{leb, eqb}
use lib.ListN.{length, take, get_or, length-append, length-map, length-take}
use borrow.Author.Tests.{leb-false}
use Rattle.text.specs.Bytes.{equal}
use Rattle.message.specs.Build.{type_max, name_max}
use Rattle.message.specs.Refusals.{text_over_size, text_not_good}
use Rattle.engine.specs.Sizes.{advertisements_max, subscriptions_max, links_max, addresses_max, location_max}
use Rattle.engine.specs.Table.{known, enter}
use Rattle.engine.specs.Flags.{is_up, is_multicast}
use Rattle.engine.specs.Target.{ssdp_all, target_match}
use Rattle.engine.specs.Delay.{delay}
use Rattle.engine.specs.Held.{Text, Link, Context, Advertisement, Held, fresh, advertised, by_index}
use Rattle.engine.specs.Calls.{Call, NewLink, DeletedLink, NewAddress, DeletedAddress, Subscribe, Advertise, Deadvertise, Refresh, Datagram, Timeout, ResetTimer, Query, Act, Enters, Leaves, Asks, Ticks, acts}
use Rattle.engine.specs.Links.{addresses_of, any_up, contains, last_into, is_v4, address_of, link_at, stores, link_with, link_news, address_news, address_gone, context_after}
use Rattle.engine.specs.Records.{is_due}
use Rattle.engine.specs.Replies.{same_sender, shared, asked_need, asked_answer, hits, asked, served_need, served, newcomer, result, results}
use Rattle.engine.specs.Need.{Names}
use Rattle.engine.specs.Refusals.{table_full, links_full, checks}
use Rattle.engine.specs.Engine.{names_of, refusal_of, Step, accepted, unless, step}
use Rattle.engine.specs.declared.advertisement.Endpoint.{Endpoint}
use Rattle.engine.specs.declared.advertisement.ResponseNeeded.{ResponseNeeded}
use Rattle.engine.specs.declared.advertisement.ResponseNeeded.TheVariants.{None, Multicast, Unicast}
use Rattle.claims.proofs.LeafLaws.{Laws}
use Rattle.engine.proofs.Members.{Each, nobody, both, each_append, each_map, each-enter, each-leave}
use Rattle.claims.proofs.Ascending.{Ascending, empty, ascending_enter, ascending_leave, ascending_map, length-enter, length-enter-known, length-leave}
use Rattle.claims.proofs.Orders.{by_name_lem, by_number}
use Rattle.engine.proofs.Accepted.{Cleared, cleared, Fits, fits-passed, Single, single, Brings, brings}
use Rattle.engine.proofs.Bound.{Few, at-few}

-- the answer type of a reply that waits for one searcher
abbrev pub AnswerFits : ResponseNeeded → Text → Type 0
AnswerFits None answer = Unit {0}
AnswerFits (Multicast due) answer = Unit {0}
AnswerFits (Unicast due sender receiver) answer = Fits type_max answer

pub record TextsFit (a : Advertisement) : Type 0 where
  pub name : Fits name_max a.name
  pub service : Fits type_max a.service
  pub location : Fits location_max a.location
  pub answer : AnswerFits a.needed a.answer

-- the advertisements: in byte order of name, at most as many as the table has rows, all texts fit
pub record Listed (as' : List Advertisement) : Type 0 where
  pub order : Ascending advertised as'
  pub few : length as' ≤ advertisements_max
  pub fit : Each TextsFit as'

-- links by index, no more than the table has rows, nor addresses than a row has places
pub record Linked (ls : List Link) : Type 0 where
  pub order : Ascending by_index ls
  pub few : length ls ≤ links_max
  pub addresses : Each (λ l. length l.addresses ≤ addresses_max) ls

-- subscriptions, no more than the table has rows, all types fit
pub record Subscribed (ts : List Text) : Type 0 where
  pub few : length ts ≤ subscriptions_max
  pub fit : Each (Fits type_max) ts

pub record Reachable (h : Held) : Type 0 where
  pub listed : Listed h.advertisements
  pub linked : Linked h.context.links
  pub subscribed : Subscribed h.context.subscriptions

pub few-of : (h : Held) → Reachable h → Few h.context h.advertisements
few-of h r = record { names = r.listed.few; subscriptions = r.subscribed.few; links = r.linked.few; addresses = r.linked.addresses }

-- ---- the advertisements
and-false : (a b : Bool) → a ≡ true → (a && b) ≡ false → b ≡ false
and-false true b p e = e
and-false false b p e = absurd (true≢false (sym p))

entered-few : (a : Advertisement) (l : List Advertisement) (b : Bool) → known advertised a.name l ≡ b →
    (not b && leb advertisements_max (length l)) ≡ false → length l ≤ advertisements_max → length (enter advertised a l) ≤ advertisements_max
entered-few a l true e f h = omega (arith, length-enter-known advertised a l e)
entered-few a l false e f h = omega (arith, leb-false advertisements_max (length l) f, length-enter advertised a l)

-- the answer type of a search that opens a wait
module _ (laws : Laws) where
  target_fits : (target service : Text) → length target ≤ type_max → target_match target service ≡ true → Fits type_max service → (b : Bool) →
      equal target ssdp_all ≡ b → Fits type_max (cond b service target)
  target_fits target service l m f true e = f
  target_fits target service l m f false e = record { size = l; good = laws.match_good target service m e f.good }

  shared-fits : (b : Bool) (due : ℕ) (sender : Endpoint) (receiver : ℕ) (answer : Text) → Fits type_max answer → AnswerFits (shared b due sender receiver) answer
  shared-fits true due sender receiver answer h = h
  shared-fits false due sender receiver answer h = tt

  asked-fits : (b : Bool) (due : ℕ) (q : Query) (service : Text) → target_match q.target service ≡ b → length q.target ≤ type_max → Fits type_max service →
      (d : ResponseNeeded) (answer : Text) → AnswerFits d answer → AnswerFits (asked_need b due q d) (asked_answer b q service d answer)
  asked-fits false due q service m l f d answer h = h
  asked-fits true due q service m l f None answer h = target_fits q.target service l m f (equal q.target ssdp_all) refl
  asked-fits true due q service m l f (Multicast d) answer h = tt
  asked-fits true due q service m l f (Unicast d sender receiver) answer h = shared-fits (same_sender sender q.sender) d sender receiver answer h

  asked-fit : (due : ℕ) (q : Query) → length q.target ≤ type_max → (a : Advertisement) → TextsFit a → TextsFit (asked due q a)
  unfolding asked
  asked-fit due q l a f = record {
    name = f.name;
    service = f.service;
    location = f.location;
    answer = asked-fits (hits q a) due q a.service refl l f.service a.needed a.answer f.answer;
  }

served-fits : (b : Bool) (d : ResponseNeeded) (answer : Text) → AnswerFits d answer → AnswerFits (served_need b d) answer
served-fits true d answer h = tt
served-fits false d answer h = h

served-fit : (now : ℕ) (a : Advertisement) → TextsFit a → TextsFit (served now a)
unfolding served
served-fit now a f = record {
  name = f.name;
  service = f.service;
  location = f.location;
  answer = served-fits (is_due now a.needed) a.needed a.answer f.answer;
}

module _ (laws : Laws) where
  result-listed : (seed : ℕ) (x : Act) (as' : List Advertisement) → Brings as' x → Listed as' → Listed (result seed as' x).advertisements
  unfolding result
  result-listed seed (Enters name service location) as' b h = record {
    order = ascending_enter advertised by_name_lem (newcomer name service location) h.order;
    few = entered-few (newcomer name service location) as' (known advertised name as') refl b.3 h.few;
    fit = each-enter advertised (newcomer name service location) (record { name = b.0; service = b.1; location = b.2; answer = tt }) h.fit;
  }
  result-listed seed (Leaves name) as' b h = record {
    order = ascending_leave advertised by_name_lem name h.order;
    few = omega (arith, length-leave advertised name as', h.few);
    fit = each-leave advertised name h.fit;
  }
  result-listed seed (Asks q) as' b h =
      let due = q.time + delay seed q.mx in
      record {
        order = ascending_map advertised (asked due q) (λ a. unfold asked in refl) h.order;
        few = omega (arith, length-map as' (asked due q), h.few);
        fit = each_map (asked due q) (asked-fit laws due q b.0) h.fit;
      }
  result-listed seed (Ticks now) as' b h = record {
    order = ascending_map advertised (served now) (λ a. unfold served in refl) h.order;
    few = omega (arith, length-map as' (served now), h.few);
    fit = each_map (served now) (served-fit now) h.fit;
  }

  results-listed : (seed : ℕ) (xs : List Act) (as' : List Advertisement) → Single xs → Each (Brings as') xs → Listed as' → Listed (results seed as' xs).advertisements
  unfolding results
  results-listed seed [] as' s b h = h
  results-listed seed (x ∷ []) as' s (both p b) h = result-listed seed x as' p h
  results-listed seed (x ∷ y ∷ xs) as' s b h = absurd s

-- ---- links, addresses, subscriptions
last-few : (x : ℕ) (l : List ℕ) → length (last_into x l) ≤ length l
unfolding last_into
last-few x [] = omega arith
last-few x (a ∷ l) = go (eqb a x) (last-few x l)
  where
    go : (b : Bool) → length (last_into x l) ≤ length l → length (cond b (take (length l) (get_or l (length l - 1) 0 ∷ l)) (a ∷ last_into x l)) ≤ suc (length l)
    go true h = omega (arith, length-take (length l) (get_or l (length l - 1) 0 ∷ l))
    go false h = omega arith

-- a link that enters
linked-enter : (b : Link) (ls : List Link) → length b.addresses ≤ addresses_max → length (enter by_index b ls) ≤ links_max → Linked ls → Linked (enter by_index b ls)
linked-enter b ls a f h = record { order = ascending_enter by_index by_number b h.order; few = f; addresses = each-enter by_index b a h.addresses }

linked-cond : (b : Bool) (ls ms : List Link) → (b ≡ true → Linked ls) → Linked ms → Linked (cond b ls ms)
linked-cond true ls ms h k = h refl
linked-cond false ls ms h k = k

news_few : (b : Link) (ls : List Link) (k m : Bool) → known by_index b.index ls ≡ k → m ≡ true → (m && not k && leb links_max (length ls)) ≡ false →
    length ls ≤ links_max → length (enter by_index b ls) ≤ links_max
news_few b ls true m e t f h = omega (arith, length-enter-known by_index b ls e)
news_few b ls false m e t f h = omega (arith, leb-false links_max (length ls) (and-false (m && true) _ (ap (λ (x : Bool). x && true) t) f), length-enter by_index b ls)

known-few : (b : Link) (ls : List Link) → known by_index b.index ls ≡ true → length ls ≤ links_max → length (enter by_index b ls) ≤ links_max
known-few b ls e h = omega (arith, length-enter-known by_index b ls e)

and-true : (a b : Bool) → (a && b) ≡ true → (a ≡ true) × (b ≡ true)
and-true true b e = (refl, e)
and-true false b e = absurd (true≢false (sym e))

linked-after : (x : Context) (n : Names) (c : Call) → Cleared (checks x n c) → Linked x.links → Linked (context_after x c).links
unfolding checks context_after link_news address_news address_gone
linked-after x n (NewLink index flags outcome room) p h =
    let ls = x.links in
    let b = link_with index (is_up flags) (addresses_of (link_at index ls)) in
    linked-cond (is_multicast flags) (enter by_index b ls) ls
    (λ t. linked-enter b ls (at-few index ls h.addresses) (news_few b ls (known by_index index ls) (is_multicast flags) refl t (p links_full) h.few) h) h
linked-after x n (DeletedLink index outcome) p h = record {
  order = ascending_leave by_index by_number index h.order;
  few = omega (arith, length-leave by_index index x.links, h.few);
  addresses = each-leave by_index index h.addresses;
}
linked-after x n (NewAddress index address room) p h =
    let ls = x.links in
    let held = addresses_of (link_at index ls) in
    let b = link_with index (any_up (link_at index ls)) (held ++ (address_of address ∷ [])) in
    linked-cond (stores index address ls) (enter by_index b ls) ls
    (λ t.
    let s = and-true (is_v4 address && known by_index index ls) (not (contains (address_of address) held)) t in
    let k = and-true (is_v4 address) (known by_index index ls) s.0 in
    let free = leb-false addresses_max (length held) (and-false (stores index address ls) (leb addresses_max (length held)) t (p links_full)) in
    linked-enter b ls (omega (arith, length-append held (address_of address ∷ []), free)) (known-few b ls k.1 h.few) h) h
linked-after x n (DeletedAddress index address) p h =
    let ls = x.links in
    let held = addresses_of (link_at index ls) in
    let b = link_with index (any_up (link_at index ls)) (last_into (address_of address) held) in
    linked-cond (is_v4 address && known by_index index ls) (enter by_index b ls) ls
    (λ t.
    let k = and-true (is_v4 address) (known by_index index ls) t in
    linked-enter b ls (omega (arith, last-few (address_of address) held, at-few index ls h.addresses)) (known-few b ls k.1 h.few) h) h
linked-after x n (Subscribe service room) p h = h
linked-after x n (Advertise name service location room) p h = h
linked-after x n (Deadvertise name room) p h = h
linked-after x n (Refresh room) p h = h
linked-after x n (Datagram now sender receiver s) p h = h
linked-after x n (Timeout now room) p h = h
linked-after x n (ResetTimer now) p h = h

subscribed-after : (x : Context) (n : Names) (c : Call) → Cleared (checks x n c) → Subscribed x.subscriptions → Subscribed (context_after x c).subscriptions
unfolding checks context_after
subscribed-after x n (NewLink index flags outcome room) p h = h
subscribed-after x n (DeletedLink index outcome) p h = h
subscribed-after x n (NewAddress index address room) p h = h
subscribed-after x n (DeletedAddress index address) p h = h
subscribed-after x n (Subscribe service room) p h = record {
  few = omega (arith, length-append x.subscriptions (service ∷ []), leb-false subscriptions_max (length x.subscriptions) (p table_full));
  fit = each_append h.fit (both (fits-passed type_max service (p text_over_size) (p text_not_good)) nobody);
}
subscribed-after x n (Advertise name service location room) p h = h
subscribed-after x n (Deadvertise name room) p h = h
subscribed-after x n (Refresh room) p h = h
subscribed-after x n (Datagram now sender receiver s) p h = h
subscribed-after x n (Timeout now room) p h = h
subscribed-after x n (ResetTimer now) p h = h

-- ---- every engine
pub reachable-fresh : (seed time : ℕ) → Reachable (fresh seed time)
unfolding fresh
reachable-fresh seed time = record {
  listed = record { order = empty; few = omega arith; fit = nobody };
  linked = record { order = empty; few = omega arith; addresses = nobody };
  subscribed = record { few = omega arith; fit = nobody };
}

pub accepted-reachable : Laws → (h : Held) (c : Call) → refusal_of h c ≡ 0 → Reachable h → Reachable (accepted h c).after
unfolding accepted refusal_of
accepted-reachable laws h c e r =
    let p = cleared h.context (names_of h.advertisements) c e in
    record {
      listed = results-listed laws h.context.seed (acts c) h.advertisements (single c) (brings h c e) r.listed;
      linked = linked-after h.context (names_of h.advertisements) c p r.linked;
      subscribed = subscribed-after h.context (names_of h.advertisements) c p r.subscribed;
    }

unless-reachable : (k : ℕ) (h : Held) (s : Step) → (k ≡ 0 → Reachable s.after) → Reachable h → Reachable (unless k h s).after
unless-reachable zero h s f r = f refl
unless-reachable (suc k) h s f r = r

pub reachable-step : Laws → (h : Held) (c : Call) → Reachable h → Reachable (step h c).after
unfolding step
reachable-step laws h c r = unless-reachable (refusal_of h c) h (accepted h c) (λ e. accepted-reachable laws h c e r) r
