-- The engine's advertisements and the ledger's names say the same, row by row, and each call keeps that so: the answer's counts and waiting are the ledger's,
-- and what a handle_timeout sends for its replies is what the ledger sends for its waits.
-- The relation goes from the ledger to the engine, since a reply to the group has forgotten its sender.
use mathlib.Core.Path.{◌≡◌, refl, sym, ◌∙◌, ap, subst}
use mathlib.Core.Bool.{Bool, true, false, cond, not, ◌||◌}
use mathlib.Core.List.Forall₂.{cons as row}
use mathlib.Core.List.Forall₂.{nil}
use mathlib.Core.List.{List, [], ◌∷◌, map, Forall₂ as Rows}
use mathlib.Core.Option.{Option, none, some}
use Prim.Native.Nat.{ℕ, zero, suc, ◌+◌}
use native.Mathlib.Omega.{arith}
use Rattle.text.specs.Bytes.{equal, order}
use Rattle.engine.specs.Table.{entry_of}
use Rattle.engine.specs.Target.{target_match}
use Rattle.engine.specs.Delay.{delay}
use Rattle.engine.specs.Held.{Text, Advertisement, Context, Held, is_less, advertised}
use Rattle.engine.specs.Calls.{Call, Query, Act, Enters, Leaves, Asks, Ticks, acts, Counts, zeros, plus}
use Rattle.engine.specs.Records.{is_due, notify_on, reply_records, due_records, flat}
use Rattle.engine.specs.Replies.{sum_of, one, waits, waiting, same_sender, shared, asked_need, asked_answer, asked, matched_by, joined_by, served_need, served, is_alone, is_group, alone_at, group_at, Result, newcomer, result, results}
use Rattle.engine.specs.Need.{Names}
use Rattle.engine.specs.Refusals.{refusal}
use Rattle.engine.specs.Engine.{names_of, refusal_of, Step, accepted, unless, step}
use Rattle.claims.specs.Ledger.{Wait, Name, named, with_wait, wait_count, waits_in, joined, searched, due_at, timed_out, Acted, each, ticked, acted, acted_all, Ledger, ledger_names, refusal_in, Entry, entered, if_accepted, entry, announced, replies_to, ledger_records}
use Rattle.claims.specs.Claim.{counts_of}
use Rattle.engine.specs.declared.advertisement.Endpoint.{Endpoint}
use Rattle.engine.specs.declared.advertisement.ResponseNeeded.{ResponseNeeded}
use Rattle.engine.specs.declared.advertisement.ResponseNeeded.TheVariants.{None, Multicast, Unicast}
use Rattle.claims.proofs.Rows.{rows-length, rows-known, rows-entry, rows-leave, rows-enter}

-- a wait, and a waiting reply with the answer type beside it
abbrev pub Alike : ResponseNeeded → Text → Option Wait → Type 0
Alike None answer none = Unit {0}
Alike None answer (some w) = ⊥
Alike (Multicast due) answer none = ⊥
Alike (Multicast due) answer (some w) = (w.due ≡ due) × (w.group ≡ true)
Alike (Unicast due sender receiver) answer none = ⊥
Alike (Unicast due sender receiver) answer (some w) =
    (w.due ≡ due) × (w.group ≡ false) × (w.sender ≡ sender) × (w.receiver ≡ receiver) × (w.answer ≡ answer)

pub record Same (a : Advertisement) (n : Name) : Type 0 where
  pub name : a.name ≡ n.name
  pub service : a.service ≡ n.service
  pub location : a.location ≡ n.location
  pub alike : Alike a.needed a.answer n.wait

abbrev pub Table : List Advertisement → List Name → Type 0
Table as' ns = Rows Same as' ns

same_name : (a : Advertisement) (n : Name) → Same a n → a.name ≡ n.name
same_name a n h = h.name

abbrev before : Text → Text → Bool
before x y = is_less (order x y)

-- counts that are equal one by one
pub record SameCounts (c d : Counts) : Type 0 where
  pub matched : c.matched ≡ d.matched
  pub joined : c.joined ≡ d.joined
  pub alone : c.alone ≡ d.alone
  pub group : c.group ≡ d.group
  pub dropped : c.dropped ≡ d.dropped

pub no_counts : SameCounts zeros zeros
no_counts = record { matched = refl; joined = refl; alone = refl; group = refl; dropped = refl }

pub plus-same : {a b c d : Counts} → SameCounts a b → SameCounts c d → SameCounts (plus a c) (plus b d)
plus-same h k = omega arith

pub same-counts : {c d : Counts} → SameCounts c d → c ≡ d
same-counts h = λ i. record { matched = h.matched i; joined = h.joined i; alone = h.alone i; group = h.group i; dropped = h.dropped i }

-- ---- what waits
waits-same : (d : ResponseNeeded) (answer : Text) (o : Option Wait) → Alike d answer o → waits d ≡ wait_count o
waits-same None answer none h = refl
waits-same None answer (some w) h = absurd h
waits-same (Multicast due) answer none h = absurd h
waits-same (Multicast due) answer (some w) h = refl
waits-same (Unicast due s r) answer none h = absurd h
waits-same (Unicast due s r) answer (some w) h = refl

pub waiting-same : {as' : List Advertisement} {ns : List Name} → Table as' ns → waiting as' ≡ waits_in ns
unfolding waiting sum_of waits_in
waiting-same nil = refl
waiting-same (row {a = a} {b = n} h t) = omega (arith, waits-same a.needed a.answer n.wait h.alike, waiting-same t)

-- ---- a search, at one name
record Searched (b : Bool) (seed : ℕ) (q : Query) (service : Text) (d : ResponseNeeded) (answer : Text) (o : Option Wait) : Type 0 where
  alike : Alike (asked_need b (q.time + delay seed q.mx) q d) (asked_answer b q service d answer) (searched b seed q service o).wait
  matched : one b ≡ (searched b seed q service o).adds.matched
  joins : cond b (waits d) 0 ≡ (searched b seed q service o).adds.joined
  alone : (searched b seed q service o).adds.alone ≡ 0
  group : (searched b seed q service o).adds.group ≡ 0
  dropped : (searched b seed q service o).adds.dropped ≡ 0

shared_same : (b c : Bool) (due : ℕ) (answer : Text) (w : Wait) (s : Endpoint) (r : ℕ) → c ≡ b → Alike (Unicast due s r) answer (some w) →
    (q : Query) → (w.group || not c) ≡ (joined q w).group → Alike (shared b due s r) answer (some (joined q w))
shared_same true c due answer w s r e h q g = (h.0, sym g ∙ rw (e, h.1), h.2, h.3, h.4)
shared_same false c due answer w s r e h q g = (h.0, sym g ∙ rw (e, h.1))

searched-same : (b : Bool) (seed : ℕ) (q : Query) (service : Text) (d : ResponseNeeded) (answer : Text) (o : Option Wait) → Alike d answer o →
    Searched b seed q service d answer o
searched-same false seed q service d answer o h = record { alike = h; matched = refl; joins = refl; alone = refl; group = refl; dropped = refl }
searched-same true seed q service None answer none h =
    record { alike = (refl, refl, refl, refl, refl); matched = refl; joins = refl; alone = refl; group = refl; dropped = refl }
searched-same true seed q service None answer (some w) h = absurd h
searched-same true seed q service (Multicast due) answer none h = absurd h
searched-same true seed q service (Multicast due) answer (some w) h =
    record { alike = (h.0, rw h.1); matched = refl; joins = refl; alone = refl; group = refl; dropped = refl }
searched-same true seed q service (Unicast due s r) answer none h = absurd h
searched-same true seed q service (Unicast due s r) answer (some w) h = record {
  alike = shared_same (same_sender s q.sender) (same_sender w.sender q.sender) due answer w s r (ap (λ (x : Endpoint). same_sender x q.sender) h.2) h q refl;
  matched = refl;
  joins = refl;
  alone = refl;
  group = refl;
  dropped = refl;
}

-- ---- a search, at every name
abbrev ask : ℕ → Query → Advertisement → Advertisement
ask seed q a = asked (q.time + delay seed q.mx) q a

abbrev asks : ℕ → Query → List Name → Acted
asks seed q ns = each (λ n. searched (target_match q.target n.service) seed q n.service n.wait) ns

record Asked (seed : ℕ) (q : Query) (as' : List Advertisement) (ns : List Name) : Type 0 where
  table : Table (map (ask seed q) as') (asks seed q ns).names
  matched : sum_of (matched_by q) as' ≡ (asks seed q ns).adds.matched
  joins : sum_of (joined_by q) as' ≡ (asks seed q ns).adds.joined
  alone : (asks seed q ns).adds.alone ≡ 0
  group : (asks seed q ns).adds.group ≡ 0
  dropped : (asks seed q ns).adds.dropped ≡ 0

asked-row : (seed : ℕ) (q : Query) (a : Advertisement) (n : Name) → Same a n →
    Same (ask seed q a) (with_wait n (searched (target_match q.target n.service) seed q n.service n.wait).wait)
unfolding asked
asked-row seed q a n h = record {
  name = h.name;
  service = h.service;
  location = h.location;
  alike = rw h.service (searched-same (target_match q.target n.service) seed q n.service a.needed a.answer n.wait h.alike).alike;
}

asked-same : (seed : ℕ) (q : Query) {as' : List Advertisement} {ns : List Name} → Table as' ns → Asked seed q as' ns
unfolding sum_of matched_by joined_by each
asked-same seed q nil = record { table = nil; matched = refl; joins = refl; alone = refl; group = refl; dropped = refl }
asked-same seed q (row {a = a} {b = n} h t) =
    let r = asked-same seed q t in
    let i = searched-same (target_match q.target n.service) seed q n.service a.needed a.answer n.wait h.alike in
    record {
      table = row (asked-row seed q a n h) r.table;
      matched = rw h.service (omega (arith, i.matched, r.matched));
      joins = rw h.service (omega (arith, i.joins, r.joins));
      alone = omega (arith, i.alone, r.alone);
      group = omega (arith, i.group, r.group);
      dropped = omega (arith, i.dropped, r.dropped);
    }

-- ---- handle_timeout, at one name
due-same : (now : ℕ) (d : ResponseNeeded) (answer : Text) (o : Option Wait) → Alike d answer o → is_due now d ≡ due_at now o
due-same now None answer none h = refl
due-same now None answer (some w) h = absurd h
due-same now (Multicast due) answer none h = absurd h
due-same now (Multicast due) answer (some w) h = rw h.0
due-same now (Unicast due s r) answer none h = absurd h
due-same now (Unicast due s r) answer (some w) h = rw h.0

record TimedOut (b : Bool) (up : List ℕ) (a : Advertisement) (n : Name) (d : ResponseNeeded) (o : Option Wait) : Type 0 where
  alike : Alike (served_need b d) a.answer (timed_out b o).wait
  alone : cond b (is_alone d) 0 ≡ (timed_out b o).adds.alone
  group : cond b (is_group d) 0 ≡ (timed_out b o).adds.group
  matched : (timed_out b o).adds.matched ≡ 0
  joins : (timed_out b o).adds.joined ≡ 0
  dropped : (timed_out b o).adds.dropped ≡ 0
  sent : cond b (reply_records up a d) [] ≡ cond b (replies_to up n o) []

timed-same : (b : Bool) (up : List ℕ) (a : Advertisement) (n : Name) (d : ResponseNeeded) (o : Option Wait) →
    a.name ≡ n.name → a.service ≡ n.service → a.location ≡ n.location → Alike d a.answer o → TimedOut b up a n d o
timed-same false up a n d o p k l h =
    record { alike = h; alone = refl; group = refl; matched = refl; joins = refl; dropped = refl; sent = refl }
timed-same true up a n None none p k l h =
    record { alike = tt; alone = refl; group = refl; matched = refl; joins = refl; dropped = refl; sent = refl }
timed-same true up a n None (some w) p k l h = absurd h
timed-same true up a n (Multicast due) none p k l h = absurd h
timed-same true up a n (Multicast due) (some w) p k l h = record {
  alike = tt;
  alone = rw h.1;
  group = rw h.1;
  matched = rw h.1;
  joins = rw h.1;
  dropped = rw h.1;
  sent = rw (h.1, p, k, l);
}
timed-same true up a n (Unicast due s r) none p k l h = absurd h
timed-same true up a n (Unicast due s r) (some w) p k l h = record {
  alike = tt;
  alone = rw h.1;
  group = rw h.1;
  matched = rw h.1;
  joins = rw h.1;
  dropped = rw h.1;
  sent = rw (h.1, h.2, h.3, h.4, p, l);
}

-- ---- handle_timeout, at every name
pub record Timed (now : ℕ) (up : List ℕ) (as' : List Advertisement) (ns : List Name) : Type 0 where
  pub table : Table (map (served now) as') (ticked now ns).names
  pub alone : sum_of (alone_at now) as' ≡ (ticked now ns).adds.alone
  pub group : sum_of (group_at now) as' ≡ (ticked now ns).adds.group
  pub matched : (ticked now ns).adds.matched ≡ 0
  pub joins : (ticked now ns).adds.joined ≡ 0
  pub dropped : (ticked now ns).adds.dropped ≡ 0
  pub sent : flat (due_records now up) as' ≡ ledger_records now up ns

served-row : (now : ℕ) (a : Advertisement) (n : Name) → Same a n → Same (served now a) (with_wait n (timed_out (due_at now n.wait) n.wait).wait)
unfolding served
served-row now a n h = record {
  name = h.name;
  service = h.service;
  location = h.location;
  alike = rw (due-same now a.needed a.answer n.wait h.alike)
      (timed-same (due_at now n.wait) [] a n a.needed n.wait h.name h.service h.location h.alike).alike;
}

pub served-same : (now : ℕ) (up : List ℕ) {as' : List Advertisement} {ns : List Name} → Table as' ns → Timed now up as' ns
unfolding sum_of alone_at group_at each flat due_records ledger_records
served-same now up nil = record { table = nil; alone = refl; group = refl; matched = refl; joins = refl; dropped = refl; sent = refl }
served-same now up (row {a = a} {b = n} h t) =
    let r = served-same now up t in
    let e = due-same now a.needed a.answer n.wait h.alike in
    let i = timed-same (due_at now n.wait) up a n a.needed n.wait h.name h.service h.location h.alike in
    record {
      table = row (served-row now a n h) r.table;
      alone = rw e (omega (arith, i.alone, r.alone));
      group = rw e (omega (arith, i.group, r.group));
      matched = omega (arith, i.matched, r.matched);
      joins = omega (arith, i.joins, r.joins);
      dropped = omega (arith, i.dropped, r.dropped);
      sent = rw e (cc (i.sent, r.sent));
    }

-- ---- a refresh: what the engine announces of its advertisements is what the ledger does of its names
pub announced-same : (up : List ℕ) {as' : List Advertisement} {ns : List Name} → Table as' ns → flat (notify_on up) as' ≡ flat (announced up) ns
unfolding flat
announced-same up nil = refl
announced-same up (row h t) = rw (h.name, h.service, h.location, announced-same up t)

-- ---- an act: the engine's result and the ledger's
record Agrees (s : Result) (t : Acted) : Type 0 where
  table : Table s.advertisements t.names
  counts : SameCounts s.counts t.adds

entry-waiting : (x : Text) {as' : List Advertisement} {ns : List Name} → Table as' ns → waiting (entry_of advertised x as') ≡ waits_in (entry_of named x ns)
entry-waiting x t = waiting-same (rows-entry before equal (λ a. a.name) (λ n. n.name) same_name x t)

result-same : (x : Act) (seed : ℕ) {as' : List Advertisement} {ns : List Name} → Table as' ns → Agrees (result seed as' x) (acted seed ns x)
unfolding result acted
result-same (Enters name service location) seed t = record {
  table = rows-enter before equal (λ a. a.name) (λ n. n.name) same_name {p = newcomer name service location}
      {q = record { name = name; service = service; location = location; wait = none }} (record { name = refl; service = refl; location = refl; alike = tt }) t;
  counts = record { matched = refl; joined = refl; alone = refl; group = refl; dropped = entry-waiting name t };
}
result-same (Leaves name) seed t = record {
  table = rows-leave before equal (λ a. a.name) (λ n. n.name) same_name name t;
  counts = record { matched = refl; joined = refl; alone = refl; group = refl; dropped = entry-waiting name t };
}
result-same (Asks q) seed t =
    let r = asked-same seed q t in
    record { table = r.table; counts = record { matched = r.matched; joined = r.joins; alone = sym r.alone; group = sym r.group; dropped = sym r.dropped } }
result-same (Ticks now) seed t =
    let r = served-same now [] t in
    record { table = r.table; counts = record { matched = sym r.matched; joined = sym r.joins; alone = r.alone; group = r.group; dropped = sym r.dropped } }

results_same : (xs : List Act) (seed : ℕ) {as' : List Advertisement} {ns : List Name} → Table as' ns → Agrees (results seed as' xs) (acted_all seed ns xs)
unfolding results acted_all
results_same [] seed t = record { table = t; counts = no_counts }
results_same (x ∷ xs) seed t =
    let a = result-same x seed t in
    let b = results_same xs seed a.table in
    record { table = b.table; counts = plus-same a.counts b.counts }

-- ---- a call: the engine's step and the ledger's entry
pub record Agree (h : Held) (l : Ledger) : Type 0 where
  pub context : h.context ≡ l.context
  pub table : Table h.advertisements l.names

pub record Matches (s : Step) (t : Entry) : Type 0 where
  pub agree : Agree s.after t.ledger
  pub counts : SameCounts (counts_of s.answer) t.adds
  pub waiting : s.answer.waiting ≡ waits_in t.ledger.names

accepted-same : (c : Call) (x : Context) {as' : List Advertisement} {ns : List Name} → Table as' ns →
    Matches (accepted (record { context = x; advertisements = as' }) c) (entered (record { context = x; names = ns }) c)
unfolding accepted entered
accepted-same c x t =
    let a = results_same (acts c) x.seed t in
    record { agree = record { context = refl; table = a.table }; counts = a.counts; waiting = waiting-same a.table }

turned_at : (c : Call) (x : Context) {as' : List Advertisement} {ns : List Name} → Table as' ns →
    refusal_of (record { context = x; advertisements = as' }) c ≡ refusal_in (record { context = x; names = ns }) c
unfolding refusal_of names_of refusal_in ledger_names
turned_at c x t =
    ap (λ (n : Names). refusal x n c)
    (λ i. record {
      holds = λ name. rows-known before equal (λ a. a.name) (λ n. n.name) same_name name t i;
      count = rows-length t i;
      alone = λ now. (served-same now [] t).alone i;
      group = λ now. (served-same now [] t).group i;
    })

unless-same : (k : ℕ) (h : Held) (l : Ledger) (s : Step) (t : Entry) → Agree h l → Matches s t → Matches (unless k h s) (if_accepted k l t)
unless-same zero h l s t a m = m
unless-same (suc k) h l s t a m = record { agree = a; counts = no_counts; waiting = waiting-same a.table }

step-at : (c : Call) (x : Context) {as' : List Advertisement} {ns : List Name} → Table as' ns →
    Matches (step (record { context = x; advertisements = as' }) c) (entry (record { context = x; names = ns }) c)
unfolding step entry
step-at c x {as'} {ns} t =
    rw (turned_at c x t)
    (unless-same (refusal_in (record { context = x; names = ns }) c) (record { context = x; advertisements = as' }) (record { context = x; names = ns }) _ _
    (record { context = refl; table = t }) (accepted-same c x t))

pub turned_same : (c : Call) (h : Held) (l : Ledger) → Agree h l → refusal_of h c ≡ refusal_in l c
turned_same c h l a = turned_at c h.context a.table ∙ ap (λ (x : Context). refusal_in (record { context = x; names = l.names }) c) a.context

pub step_same : (c : Call) (h : Held) (l : Ledger) → Agree h l → Matches (step h c) (entry l c)
step_same c h l a = subst (λ (x : Context). Matches (step h c) (entry (record { context = x; names = l.names }) c)) a.context (step-at c h.context a.table)
