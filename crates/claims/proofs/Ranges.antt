-- Each accepted call keeps to what rows can hold, if its numbers are in the range of their types.
use mathlib.Core.Path.{◌≡◌, refl}
use mathlib.Core.Bool.{Bool, true, false, cond, ◌&&◌}
use mathlib.Core.List.{List, [], ◌∷◌, ◌++◌}
use mathlib.Core.Option.{Option, none, some}
use Prim.Native.Nat.{ℕ, zero, suc, ◌+◌, ◌-◌, ◌%◌, ◌≤◌}
use native.Mathlib.Omega.{arith}
use lib.Dec.{eqb, ltb}
use lib.ListN.{length, take, get_or}
use Rattle.text.specs.Bytes.{equal}
use Rattle.message.specs.Parse.{parsed}
use Rattle.message.specs.Build.{type_max}
use Rattle.message.specs.declared.Message.{Message}
use Rattle.message.specs.declared.Message.TheVariants.{NotifyAlive, NotifyByeBye, Search, Response}
use Rattle.engine.specs.Table.{known}
use Rattle.engine.specs.Flags.{is_multicast, is_up}
use Rattle.engine.specs.RefreshTimer.{period, timer_new, timer_reset, timer_step}
use Rattle.engine.specs.Target.{ssdp_all}
use Rattle.engine.specs.Delay.{delay}
use Rattle.engine.specs.Held.{Text, Link, Context, Advertisement, Held, fresh, advertised, by_index}
use Rattle.engine.specs.Calls.{Call, NewLink, DeletedLink, NewAddress, DeletedAddress, Subscribe, Advertise, Deadvertise, Refresh, Datagram, Timeout, ResetTimer, Query, Act, Enters, Leaves, Asks, Ticks, asks, acts}
use Rattle.engine.specs.Links.{addresses_of, any_up, last_into, is_v4, address_of, link_at, stores, link_with, link_news, address_news, address_gone, context_after}
use Rattle.engine.specs.Records.{is_due}
use Rattle.engine.specs.Replies.{same_sender, shared, asked_need, asked_answer, hits, asked, served_need, served, newcomer, result, results}
use Rattle.engine.specs.Engine.{refusal_of, accepted}
use Rattle.claims.specs.EveryList.{Byte, Word, SenderFits, InRange}
use Rattle.engine.specs.declared.advertisement.Endpoint.{Endpoint}
use Rattle.engine.specs.declared.advertisement.ResponseNeeded.{ResponseNeeded}
use Rattle.engine.specs.declared.advertisement.ResponseNeeded.TheVariants.{None, Multicast, Unicast}
use Rattle.engine.specs.declared.refresh_timer.RefreshTimer.{RefreshTimer}
use Rattle.claims.proofs.LeafLaws.{laws}
use Rattle.engine.proofs.Members.{Each, nobody, both, each-by, each-cond, each_append, each_map, each-enter, each-leave, each-entry}
use Rattle.engine.proofs.Accepted.{Single, single, Brings, brings}
use Rattle.claims.proofs.Reachable.{TextsFit, reachable-fresh, accepted-reachable}
use Rattle.claims.proofs.Storing.{Narrow, ReplyFits, Answerable, Ranged, Fits, each_both}

-- ---- addresses
byte_at : (l : List ℕ) → Each Byte l → (i : ℕ) → Byte (get_or l i 0)
byte_at [] nobody i = omega arith
byte_at (a ∷ l) (both p h) zero = p
byte_at (a ∷ l) (both p h) (suc i) = byte_at l h i

address_word : (b : List ℕ) → Each Byte b → Word (address_of b)
address_word b h = omega (arith, byte_at b h 0, byte_at b h 1, byte_at b h 2, byte_at b h 3)

each_take : {A : Type 0} {P : A → Type 0} (n : ℕ) {l : List A} → Each P l → Each P (take n l)
each_take zero h = nobody
each_take (suc n) nobody = nobody
each_take (suc n) (both p h) = both p (each_take n h)

word_at : (l : List ℕ) → Each Word l → (i : ℕ) → Word (get_or l i 0)
word_at [] nobody i = omega arith
word_at (a ∷ l) (both p h) zero = p
word_at (a ∷ l) (both p h) (suc i) = word_at l h i

words_last : (x : ℕ) {l : List ℕ} → Each Word l → Each Word (last_into x l)
unfolding last_into
words_last x nobody = nobody
words_last x (both {a = a} {l = l} p h) =
    each-cond (eqb a x) (each_take (length l) (both (word_at l h (length l - 1)) h)) (both p (words_last x h))

words_of : {ls : List Link} → Each Narrow ls → Each Word (addresses_of ls)
unfolding addresses_of
words_of nobody = nobody
words_of (both p h) = each_append p.addresses (words_of h)

-- ---- what is held beside the names
step-ranged : (t : RefreshTimer) (time : ℕ) (seed : ℕ) → t.random_seed ≡ seed → Byte t.phase →
    ((timer_step t time).random_seed ≡ seed) × Byte (timer_step t time).phase
unfolding timer_step
step-ranged t time seed e h = go (ltb time t.next_salvo)
  where
    after : RefreshTimer
    after = record { random_seed = t.random_seed; next_salvo = t.next_salvo + period t.random_seed t.phase; phase = (t.phase + 1) % 4 }

    go : (b : Bool) → ((cond b t after).random_seed ≡ seed) × Byte (cond b t after).phase
    go true = (e, h)
    go false = (e, omega arith)

with_links_lem : (x : Context) (ls : List Link) → Each Narrow ls → Ranged x →
    Ranged (record { seed = x.seed; timer = x.timer; links = ls; subscriptions = x.subscriptions })
with_links_lem x ls h r = record { seed = r.seed; timer = r.timer; phase = r.phase; links = h }

pub context-ranged : (x : Context) (c : Call) → InRange c → Ranged x → Ranged (context_after x c)
unfolding context_after link_news address_news address_gone timer_reset timer_new
context-ranged x (NewLink index flags outcome room) i r =
    let at = link_at index x.links in
    let b = link_with index (is_up flags) (addresses_of at) in
    with_links_lem x _ (each-cond (is_multicast flags) (each-enter by_index b (record { index = i; addresses = words_of (each-entry by_index index r.links) }) r.links) r.links) r
context-ranged x (DeletedLink index outcome) i r = with_links_lem x _ (each-leave by_index index r.links) r
context-ranged x (NewAddress index address room) i r =
    let at = link_at index x.links in
    let b = link_with index (any_up at) (addresses_of at ++ (address_of address ∷ [])) in
    with_links_lem x _
    (each-cond (stores index address x.links)
    (each-enter by_index b
    (record { index = i.0; addresses = each_append (words_of (each-entry by_index index r.links)) (both (address_word address (each-by address i.1)) nobody) })
    r.links) r.links) r
context-ranged x (DeletedAddress index address) i r =
    let at = link_at index x.links in
    let b = link_with index (any_up at) (last_into (address_of address) (addresses_of at)) in
    with_links_lem x _
    (each-cond (is_v4 address && known by_index index x.links)
    (each-enter by_index b (record { index = i; addresses = words_last (address_of address) (words_of (each-entry by_index index r.links)) }) r.links)
    r.links) r
context-ranged x (Subscribe service room) i r = record { seed = r.seed; timer = r.timer; phase = r.phase; links = r.links }
context-ranged x (Advertise name service location room) i r = r
context-ranged x (Deadvertise name room) i r = r
context-ranged x (Refresh room) i r = r
context-ranged x (Datagram time sender receiver s) i r = r
context-ranged x (Timeout time room) i r =
    let t = step-ranged x.timer time x.seed r.timer r.phase in
    record { seed = r.seed; timer = t.0; phase = t.1; links = r.links }
context-ranged x (ResetTimer time) i r = record { seed = r.seed; timer = r.timer; phase = omega arith; links = r.links }

-- ---- the names
abbrev ActFits : Act → Type 0
ActFits (Enters name service location) = Unit {0}
ActFits (Leaves name) = Unit {0}
ActFits (Asks q) = SenderFits q.sender q.receiver
ActFits (Ticks time) = Unit {0}

asks-fit : (time : ℕ) (sender : Endpoint) (receiver : ℕ) (s : List ℕ) (m : Option Message) → SenderFits sender receiver → Each ActFits (asks time sender receiver s m)
asks-fit time sender receiver s none h = nobody
asks-fit time sender receiver s (some (NotifyAlive nt usn l)) h = nobody
asks-fit time sender receiver s (some (NotifyByeBye nt usn)) h = nobody
asks-fit time sender receiver s (some (Search st mx)) h = both h nobody
asks-fit time sender receiver s (some (Response st usn l)) h = nobody

acts-fit : (c : Call) → InRange c → Each ActFits (acts c)
unfolding acts
acts-fit (NewLink index flags outcome room) h = nobody
acts-fit (DeletedLink index outcome) h = nobody
acts-fit (NewAddress index address room) h = nobody
acts-fit (DeletedAddress index address) h = nobody
acts-fit (Subscribe service room) h = nobody
acts-fit (Advertise name service location room) h = both {a = Enters name service location} tt nobody
acts-fit (Deadvertise name room) h = both {a = Leaves name} tt nobody
acts-fit (Refresh room) h = nobody
acts-fit (Datagram time sender receiver s) h = asks-fit time sender receiver s (parsed s).message h
acts-fit (Timeout time room) h = both {a = Ticks time} tt nobody
acts-fit (ResetTimer time) h = nobody

shared-fits : (b : Bool) (due : ℕ) (sender : Endpoint) (receiver : ℕ) → SenderFits sender receiver → ReplyFits (shared b due sender receiver)
shared-fits true due sender receiver h = h
shared-fits false due sender receiver h = tt

need-fits : (b : Bool) (due : ℕ) (q : Query) → SenderFits q.sender q.receiver → (n : ResponseNeeded) → ReplyFits n → ReplyFits (asked_need b due q n)
need-fits false due q s n h = h
need-fits true due q s None h = s
need-fits true due q s (Multicast d) h = tt
need-fits true due q s (Unicast d sender receiver) h = shared-fits (same_sender sender q.sender) d sender receiver h

service-fits : (b : Bool) (target service : Text) → length target ≤ type_max → length service ≤ type_max → length (cond b service target) ≤ type_max
service-fits true target service h g = g
service-fits false target service h g = h

answer-fits : (b : Bool) (q : Query) (service : Text) → length q.target ≤ type_max → length service ≤ type_max → (n : ResponseNeeded) (answer : Text) →
    length answer ≤ type_max → length (asked_answer b q service n answer) ≤ type_max
answer-fits false q service h g n answer k = k
answer-fits true q service h g None answer k = service-fits (equal q.target ssdp_all) q.target service h g
answer-fits true q service h g (Multicast d) answer k = k
answer-fits true q service h g (Unicast d sender receiver) answer k = k

asked-fits : (due : ℕ) (q : Query) → SenderFits q.sender q.receiver → length q.target ≤ type_max → (a : Advertisement) → TextsFit a × Answerable a → Answerable (asked due q a)
unfolding asked
asked-fits due q s l a f = record {
  needed = need-fits (hits q a) due q s a.needed f.1.needed;
  answer = answer-fits (hits q a) q a.service l f.0.service.size a.needed a.answer f.1.answer;
}

served-reply : (b : Bool) (n : ResponseNeeded) → ReplyFits n → ReplyFits (served_need b n)
served-reply true n h = tt
served-reply false n h = h

served-fits : (time : ℕ) (a : Advertisement) → Answerable a → Answerable (served time a)
unfolding served
served-fits time a f = record { needed = served-reply (is_due time a.needed) a.needed f.needed; answer = f.answer }

result_fits : (seed : ℕ) (x : Act) (as' : List Advertisement) → Brings as' x → ActFits x → Each TextsFit as' → Each Answerable as' →
    Each Answerable (result seed as' x).advertisements
unfolding result
result_fits seed (Enters name service location) as' b s t h = each-enter advertised (newcomer name service location) (record { needed = tt; answer = omega arith }) h
result_fits seed (Leaves name) as' b s t h = each-leave advertised name h
result_fits seed (Asks q) as' b s t h = let due = q.time + delay seed q.mx in each_map (asked due q) (asked-fits due q s b.0) (each_both t h)
result_fits seed (Ticks time) as' b s t h = each_map (served time) (served-fits time) h

results_fit : (seed : ℕ) (xs : List Act) (as' : List Advertisement) → Single xs → Each (Brings as') xs → Each ActFits xs → Each TextsFit as' → Each Answerable as' →
    Each Answerable (results seed as' xs).advertisements
unfolding results
results_fit seed [] as' s b a t h = h
results_fit seed (x ∷ []) as' s (both p b) (both q a) t h = result_fits seed x as' p q t h
results_fit seed (x ∷ y ∷ xs) as' s b a t h = absurd s

-- ---- every engine
pub fits_fresh : (seed time : ℕ) → Word seed → Fits (fresh seed time)
unfolding fresh timer_new
fits_fresh seed time h = record {
  reachable = reachable-fresh seed time;
  ranged = record { seed = h; timer = refl; phase = omega arith; links = nobody };
  replies = nobody;
}

pub fits-accepted : (h : Held) (c : Call) → refusal_of h c ≡ 0 → InRange c → Fits h → Fits (accepted h c).after
unfolding accepted
fits-accepted h c e i f = record {
  reachable = accepted-reachable laws h c e f.reachable;
  ranged = context-ranged h.context c i f.ranged;
  replies = results_fit h.context.seed (acts c) h.advertisements (single c) (brings h c e) (acts-fit c i) f.reachable.listed.fit f.replies;
}
