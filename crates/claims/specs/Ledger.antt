-- The reply ledger of document 01, 'Engine and ledger'. It is fed the calls with their arguments alone and takes nothing from the engine's struct or answers.
-- What is held beside the names, and which calls are turned away, follow from the calls by the document's rules: `context_after` and `refusal` (engine/specs: Links, Refusals).
use Rattle.std.specs.Prelude.{ℕ, zero, suc, ◌+◌, Bool, true, false, cond, not, ◌&&◌, ◌||◌, List, [], ◌∷◌, ◌++◌, map, leb, eqb, length}
use Rattle.std.proofs.Math.Option.{Option, none, some}
use Rattle.text.specs.Bytes.{equal}
use Rattle.engine.specs.Table.{Key, known, entry_of, enter, leave}
use Rattle.engine.specs.RefreshTimer.{timer_new}
use Rattle.engine.specs.Target.{ssdp_all, target_match}
use Rattle.engine.specs.Delay.{delay}
use Rattle.engine.specs.Held.{Text, Context, by_name}
use Rattle.engine.specs.Calls.{Call, Query, Act, Enters, Leaves, Asks, Ticks, acts, Counts, zeros, plus}
use Rattle.engine.specs.Links.{up_addresses, context_after}
use Rattle.engine.specs.Records.{Record, NotifyFrom, ResponseFrom, flat, searches_of, search_on}
use Rattle.engine.specs.Need.{Names}
use Rattle.engine.specs.Refusals.{late, refusal}
use Rattle.engine.specs.declared.advertisement.Endpoint.{Endpoint}

-- a wait: its due instant, sender, receiving address and answer type, and whether it goes to the group
pub record Wait : Type 0 where
  pub due : ℕ
  pub sender : Endpoint
  pub receiver : ℕ
  pub answer : Text
  pub group : Bool

-- a name with its type, its location and its wait, if it has one
pub record Name : Type 0 where
  pub name : Text
  pub service : Text
  pub location : Text
  pub wait : Option Wait

-- the names stand in byte order
abbrev pub named : Key Text Name
named = by_name (λ n. n.name)

abbrev pub with_wait : Name → Option Wait → Name
with_wait n w = record { name = n.name; service = n.service; location = n.location; wait = w }

abbrev pub wait_count : Option Wait → ℕ
wait_count none = 0
wait_count (some w) = 1

-- how many wait
unfoldable pub waits_in : List Name → ℕ
waits_in [] = 0
waits_in (n ∷ ns) = wait_count n.wait + waits_in ns

-- ---- what an accepted call makes of one name's wait, and what it adds to the counts
pub record Change : Type 0 where
  pub wait : Option Wait
  pub adds : Counts

abbrev pub unchanged : Option Wait → Change
unchanged w = record { wait = w; adds = zeros }

-- a search opens a wait where there is none; the answer type is the target, or the name's type for `ssdp:all`
abbrev pub opened : ℕ → Query → Text → Wait
opened seed q service = record {
  due = q.time + delay seed q.mx;
  sender = q.sender;
  receiver = q.receiver;
  answer = cond (equal q.target ssdp_all) service q.target;
  group = false;
}

-- a search joins a wait, which goes to the group from then on if the sender differs from the opener's
abbrev pub differs : Endpoint → Endpoint → Bool
differs s t = not (eqb s.address t.address && eqb s.port t.port)

abbrev pub joined : Query → Wait → Wait
joined q w = record {
  due = w.due;
  sender = w.sender;
  receiver = w.receiver;
  answer = w.answer;
  group = w.group || differs w.sender q.sender;
}

-- a search, which matches the name's type or not
abbrev pub searched : Bool → ℕ → Query → Text → Option Wait → Change
searched false seed q service w = unchanged w
searched true seed q service none =
    record { wait = some (opened seed q service); adds = record { matched = 1; joined = 0; alone = 0; group = 0; dropped = 0 } }
searched true seed q service (some w) =
    record { wait = some (joined q w); adds = record { matched = 1; joined = 1; alone = 0; group = 0; dropped = 0 } }

-- a wait due at or before now
abbrev pub due_at : ℕ → Option Wait → Bool
due_at now none = false
due_at now (some w) = leb w.due now

abbrev pub sent_to : Bool → Counts
sent_to false = record { matched = 0; joined = 0; alone = 1; group = 0; dropped = 0 }
sent_to true = record { matched = 0; joined = 0; alone = 0; group = 1; dropped = 0 }

-- a handle_timeout, at which the wait is due or not
abbrev pub timed_out : Bool → Option Wait → Change
timed_out false w = unchanged w
timed_out true none = unchanged none
timed_out true (some w) = record { wait = none; adds = sent_to w.group }

-- ---- what an act makes of all names
pub record Acted : Type 0 where
  pub names : List Name
  pub adds : Counts

unfoldable pub each : (Name → Change) → List Name → Acted
each f [] = record { names = []; adds = zeros }
each f (n ∷ ns) = record { names = with_wait n (f n).wait ∷ (each f ns).names; adds = plus (f n).adds (each f ns).adds }

abbrev pub dropping : ℕ → Counts
dropping n = record { matched = 0; joined = 0; alone = 0; group = 0; dropped = n }

-- a handle_timeout at every name
abbrev pub ticked : ℕ → List Name → Acted
ticked now ns = each (λ n. timed_out (due_at now n.wait) n.wait) ns

unfoldable pub acted : ℕ → List Name → Act → Acted
acted seed ns (Enters name service location) = record {
  names = enter named (record { name = name; service = service; location = location; wait = none }) ns;
  adds = dropping (waits_in (entry_of named name ns));
}
acted seed ns (Leaves name) = record { names = leave named name ns; adds = dropping (waits_in (entry_of named name ns)) }
acted seed ns (Asks q) = each (λ n. searched (target_match q.target n.service) seed q n.service n.wait) ns
acted seed ns (Ticks now) = ticked now ns

unfoldable pub acted_all : ℕ → List Name → List Act → Acted
acted_all seed ns [] = record { names = ns; adds = zeros }
acted_all seed ns (x ∷ xs) =
    let t = acted seed ns x in
    let u = acted_all seed t.names xs in
    record { names = u.names; adds = plus t.adds u.adds }

-- ---- the ledger: what is held by the document's rules, and the names
pub record Ledger : Type 0 where
  pub context : Context
  pub names : List Name

-- what refusals look at of the names: which are held, how many, and the waits that a handle_timeout at a time would end, alone and to the group
unfoldable pub ledger_names : List Name → Names
ledger_names ns = record {
  holds = λ name. known named name ns;
  count = length ns;
  alone = λ now. (ticked now ns).adds.alone;
  group = λ now. (ticked now ns).adds.group;
}

-- the number by which a call is turned away, 0 if it is accepted: from the ledger's own state, the room that a call needs included
unfoldable pub refusal_in : Ledger → Call → ℕ
refusal_in l c = refusal l.context (ledger_names l.names) c

-- what a call leaves and adds; a refused one nothing
pub record Entry : Type 0 where
  pub ledger : Ledger
  pub adds : Counts

unfoldable pub entered : Ledger → Call → Entry
entered l c =
    let t = acted_all l.context.seed l.names (acts c) in
    record { ledger = record { context = context_after l.context c; names = t.names }; adds = t.adds }

abbrev pub if_accepted : ℕ → Ledger → Entry → Entry
if_accepted zero l t = t
if_accepted (suc k) l t = record { ledger = l; adds = zeros }

unfoldable pub entry : Ledger → Call → Entry
entry l c = if_accepted (refusal_in l c) l (entered l c)

-- a list of calls behind `new`, the latest first; a refused `new` is at time 0
unfoldable pub ledger_of : ℕ → ℕ → List Call → Ledger
ledger_of seed time [] = record {
  context = record { seed = seed; timer = timer_new seed (cond (late time) 0 time); links = []; subscriptions = [] };
  names = [];
}
ledger_of seed time (c ∷ cs) = (entry (ledger_of seed time cs) c).ledger

unfoldable pub sums_of : ℕ → ℕ → List Call → Counts
sums_of seed time [] = zeros
sums_of seed time (c ∷ cs) = plus (entry (ledger_of seed time cs) c).adds (sums_of seed time cs)

-- ---- what the ledger sends
-- a name's notify, from each of these addresses
abbrev pub announced : List ℕ → Name → List Record
announced up n = map (λ source. NotifyFrom source n.service n.name n.location) up

-- the refresh records: all names, then the searches, from each address on an up link
unfoldable pub ledger_refresh : Context → List Name → List Record
ledger_refresh x ns =
    flat (announced (up_addresses x.links)) ns ++ flat (search_on (up_addresses x.links)) (searches_of x.subscriptions)

-- the records of a wait that ends: exactly one for a lone reply, one from each address on an up link for a reply to the group
abbrev pub lone_reply : Name → Wait → Record
lone_reply n w = ResponseFrom w.receiver w.sender w.answer n.name n.location

abbrev pub replies_to : List ℕ → Name → Option Wait → List Record
replies_to up n none = []
replies_to up n (some w) = cond w.group (announced up n) (lone_reply n w ∷ [])

-- those that a handle_timeout sends for the waits that it ends, in byte order of name
unfoldable pub ledger_records : ℕ → List ℕ → List Name → List Record
ledger_records now up ns = flat (λ n. cond (due_at now n.wait) (replies_to up n n.wait) []) ns
