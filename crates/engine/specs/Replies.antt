-- The waiting replies of the engine's advertisements: what a name that enters or leaves, a search and a handle_timeout make of them, and what they count
-- (document 01, 'Engine and ledger').
use Rattle.std.specs.Prelude.{ℕ, ◌+◌, min, Bool, true, false, cond, ◌&&◌, List, [], ◌∷◌, map, eqb, Option, Some, None as no_instant}
use Rattle.text.specs.Bytes.{equal}
use Rattle.engine.specs.Table.{enter, leave, entry_of}
use Rattle.engine.specs.Target.{ssdp_all, target_match}
use Rattle.engine.specs.Delay.{delay}
use Rattle.engine.specs.Held.{Text, Advertisement, advertised}
use Rattle.engine.specs.Calls.{Query, Act, Enters, Leaves, Asks, Ticks, Counts, zeros, plus}
use Rattle.engine.specs.Records.{is_due}
use Rattle.engine.specs.declared.advertisement.Endpoint.{Endpoint}
use Rattle.engine.specs.declared.advertisement.ResponseNeeded.{ResponseNeeded}
use Rattle.engine.specs.declared.advertisement.ResponseNeeded.TheVariants.{None, Multicast, Unicast}

unfoldable pub sum_of : {A : Type 0} → (A → ℕ) → List A → ℕ
sum_of f [] = 0
sum_of f (a ∷ l) = f a + sum_of f l

abbrev pub one : Bool → ℕ
one true = 1
one false = 0

abbrev pub waits : ResponseNeeded → ℕ
waits None = 0
waits (Multicast due) = 1
waits (Unicast due sender receiver) = 1

-- the replies that wait
unfoldable pub waiting : List Advertisement → ℕ
waiting as' = sum_of (λ a. waits a.needed) as'

-- the instant of a reply, if one waits
abbrev pub due_at : ResponseNeeded → Option ℕ
due_at None = no_instant
due_at (Multicast due) = Some due
due_at (Unicast due sender receiver) = Some due

-- the least of an instant and every wait's
abbrev pub sooner : ℕ → ResponseNeeded → ℕ
sooner t None = t
sooner t (Multicast due) = min t due
sooner t (Unicast due sender receiver) = min t due

unfoldable pub soonest : ℕ → List Advertisement → ℕ
soonest t [] = t
soonest t (a ∷ l) = soonest (sooner t a.needed) l

-- ---- a search
abbrev pub same_sender : Endpoint → Endpoint → Bool
same_sender s t = eqb s.address t.address && eqb s.port t.port

-- a second searcher turns a lone reply into one to the group; the instant stays
abbrev pub shared : Bool → ℕ → Endpoint → ℕ → ResponseNeeded
shared true due sender receiver = Unicast due sender receiver
shared false due sender receiver = Multicast due

abbrev pub asked_need : Bool → ℕ → Query → ResponseNeeded → ResponseNeeded
asked_need false due q n = n
asked_need true due q None = Unicast due q.sender q.receiver
asked_need true due q (Multicast d) = Multicast d
asked_need true due q (Unicast d sender receiver) = shared (same_sender sender q.sender) d sender receiver

-- no reply waits: a search that asks for the name opens one
abbrev pub is_none : ResponseNeeded → Bool
is_none None = true
is_none (Multicast due) = false
is_none (Unicast due sender receiver) = false

-- the answer type: the target, or the advertised type for `ssdp:all`
abbrev pub answer_type : Text → Text → Text
answer_type target service = cond (equal target ssdp_all) service target

abbrev pub asked_answer : Bool → Query → Text → ResponseNeeded → Text → Text
asked_answer false q service n answer = answer
asked_answer true q service None answer = answer_type q.target service
asked_answer true q service (Multicast d) answer = answer
asked_answer true q service (Unicast d sender receiver) answer = answer

abbrev pub hits : Query → Advertisement → Bool
hits q a = target_match q.target a.service

unfoldable pub asked : ℕ → Query → Advertisement → Advertisement
asked due q a = record {
  name = a.name;
  service = a.service;
  location = a.location;
  needed = asked_need (hits q a) due q a.needed;
  answer = asked_answer (hits q a) q a.service a.needed a.answer;
}

unfoldable pub matched_by : Query → Advertisement → ℕ
matched_by q a = one (hits q a)

unfoldable pub joined_by : Query → Advertisement → ℕ
joined_by q a = cond (hits q a) (waits a.needed) 0

-- ---- handle_timeout
abbrev pub served_need : Bool → ResponseNeeded → ResponseNeeded
served_need true n = None
served_need false n = n

unfoldable pub served : ℕ → Advertisement → Advertisement
served time a = record {
  name = a.name;
  service = a.service;
  location = a.location;
  needed = served_need (is_due time a.needed) a.needed;
  answer = a.answer;
}

abbrev pub is_alone : ResponseNeeded → ℕ
is_alone None = 0
is_alone (Multicast due) = 0
is_alone (Unicast due sender receiver) = 1

abbrev pub is_group : ResponseNeeded → ℕ
is_group None = 0
is_group (Multicast due) = 1
is_group (Unicast due sender receiver) = 0

unfoldable pub alone_at : ℕ → Advertisement → ℕ
alone_at time a = cond (is_due time a.needed) (is_alone a.needed) 0

unfoldable pub group_at : ℕ → Advertisement → ℕ
group_at time a = cond (is_due time a.needed) (is_group a.needed) 0

-- ---- an act: the advertisements after it, and what it counts
pub record Result : Type 0 where
  pub advertisements : List Advertisement
  pub counts : Counts

abbrev pub drops : ℕ → Counts
drops n = record { matched = 0; joined = 0; alone = 0; group = 0; dropped = n }

abbrev pub newcomer : Text → Text → Text → Advertisement
newcomer name service location = record { name = name; service = service; location = location; needed = None; answer = [] }

unfoldable pub result : ℕ → List Advertisement → Act → Result
result seed as' (Enters name service location) =
    record { advertisements = enter advertised (newcomer name service location) as'; counts = drops (waiting (entry_of advertised name as')) }
result seed as' (Leaves name) =
    record { advertisements = leave advertised name as'; counts = drops (waiting (entry_of advertised name as')) }
result seed as' (Asks q) = record {
  advertisements = map (asked (q.time + delay seed q.mx) q) as';
  counts = record { matched = sum_of (matched_by q) as'; joined = sum_of (joined_by q) as'; alone = 0; group = 0; dropped = 0 };
}
result seed as' (Ticks time) = record {
  advertisements = map (served time) as';
  counts = record { matched = 0; joined = 0; alone = sum_of (alone_at time) as'; group = sum_of (group_at time) as'; dropped = 0 };
}

unfoldable pub results : ℕ → List Advertisement → List Act → Result
results seed as' [] = record { advertisements = as'; counts = zeros }
results seed as' (x ∷ xs) =
    let r = result seed as' x in
    let s = results seed r.advertisements xs in
    record { advertisements = s.advertisements; counts = plus r.counts s.counts }
