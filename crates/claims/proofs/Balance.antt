-- The ledger balances: in each entry, what matched and what waited before is what joined, was sent alone or to the group, was dropped, and waits after.
use mathlib.Core.Path.{◌≡◌, refl}
use mathlib.Core.Bool.{Bool, true, false, cond}
use mathlib.Core.List.{List, [], ◌∷◌}
use mathlib.Core.Option.{Option, none, some}
use Prim.Native.Nat.{ℕ, zero, suc, ◌+◌}
use native.Mathlib.Omega.{arith}
use Rattle.engine.specs.Table.{entry_of, enter, leave}
use Rattle.engine.specs.Target.{target_match}
use Rattle.engine.specs.Held.{Text}
use Rattle.engine.specs.Calls.{Call, Query, Act, Enters, Leaves, Asks, Ticks, acts, Counts}
use Rattle.claims.specs.Ledger.{Wait, Name, named, wait_count, waits_in, Change, searched, due_at, sent_to, timed_out, each, acted, acted_all, Ledger, refusal_in, Entry, entered, if_accepted, entry, ledger_of, sums_of}

abbrev pub Level : ℕ → Counts → ℕ → Type 0
Level before c after = c.matched + before ≡ c.joined + c.alone + c.group + c.dropped + after

-- ---- one name
searched-level : (b : Bool) (seed : ℕ) (q : Query) (service : Text) (o : Option Wait) →
    Level (wait_count o) (searched b seed q service o).adds (wait_count (searched b seed q service o).wait)
searched-level false seed q service o = omega arith
searched-level true seed q service none = refl
searched-level true seed q service (some w) = refl

sent-level : (group : Bool) → Level 1 (sent_to group) 0
sent-level true = refl
sent-level false = refl

timed-level : (b : Bool) (o : Option Wait) → Level (wait_count o) (timed_out b o).adds (wait_count (timed_out b o).wait)
timed-level false o = omega arith
timed-level true none = refl
timed-level true (some w) = sent-level w.group

-- ---- all names
each_level : (f : Name → Change) → ((n : Name) → Level (wait_count n.wait) (f n).adds (wait_count (f n).wait)) → (ns : List Name) →
    Level (waits_in ns) (each f ns).adds (waits_in (each f ns).names)
unfolding each waits_in
each_level f h [] = refl
each_level f h (n ∷ ns) = omega (arith, each_level f h ns, h n)

leave-level : (x : Text) (ns : List Name) → waits_in ns ≡ waits_in (entry_of named x ns) + waits_in (leave named x ns)
unfolding entry_of leave waits_in
leave-level x [] = refl
leave-level x (n ∷ ns) = go (named.below n.name x) (named.same n.name x) (leave-level x ns)
  where
    go : (b c : Bool) → waits_in ns ≡ waits_in (entry_of named x ns) + waits_in (leave named x ns) →
        waits_in (n ∷ ns)
        ≡ waits_in (cond b (entry_of named x ns) (cond c (n ∷ []) [])) + waits_in (cond b (n ∷ leave named x ns) (cond c ns (n ∷ ns)))
    go true c h = omega arith
    go false true h = omega arith
    go false false h = omega arith

enter-level : (x : Name) → x.wait ≡ none → (ns : List Name) → waits_in ns ≡ waits_in (entry_of named x.name ns) + waits_in (enter named x ns)
unfolding entry_of enter waits_in
enter-level x e [] = rw e
enter-level x e (n ∷ ns) = go (named.below n.name x.name) (named.same n.name x.name) (enter-level x e ns)
  where
    go : (b c : Bool) → waits_in ns ≡ waits_in (entry_of named x.name ns) + waits_in (enter named x ns) →
        waits_in (n ∷ ns)
        ≡ waits_in (cond b (entry_of named x.name ns) (cond c (n ∷ []) []))
        + waits_in (cond b (n ∷ enter named x ns) (cond c (x ∷ ns) (x ∷ n ∷ ns)))
    go true c h = omega arith
    go false true h = rw e (omega arith)
    go false false h = rw e (omega arith)

-- ---- acts, calls, lists
turn_level : (seed : ℕ) (ns : List Name) (x : Act) → Level (waits_in ns) (acted seed ns x).adds (waits_in (acted seed ns x).names)
unfolding acted
turn_level seed ns (Enters name service location) =
    omega (arith, enter-level (record { name = name; service = service; location = location; wait = none }) refl ns)
turn_level seed ns (Leaves name) = omega (arith, leave-level name ns)
turn_level seed ns (Asks q) =
    each_level (λ n. searched (target_match q.target n.service) seed q n.service n.wait)
    (λ n. searched-level (target_match q.target n.service) seed q n.service n.wait) ns
turn_level seed ns (Ticks now) =
    each_level (λ n. timed_out (due_at now n.wait) n.wait) (λ n. timed-level (due_at now n.wait) n.wait) ns

turns-level : (seed : ℕ) (ns : List Name) (xs : List Act) → Level (waits_in ns) (acted_all seed ns xs).adds (waits_in (acted_all seed ns xs).names)
unfolding acted_all
turns-level seed ns [] = omega arith
turns-level seed ns (x ∷ xs) = omega (arith, turn_level seed ns x, turns-level seed (acted seed ns x).names xs)

if_level : (k : ℕ) (l : Ledger) (t : Entry) → Level (waits_in l.names) t.adds (waits_in t.ledger.names) →
    Level (waits_in l.names) (if_accepted k l t).adds (waits_in (if_accepted k l t).ledger.names)
if_level zero l t h = h
if_level (suc k) l t h = omega arith

entry-level : (l : Ledger) (c : Call) → Level (waits_in l.names) (entry l c).adds (waits_in (entry l c).ledger.names)
unfolding entry entered
entry-level l c = if_level (refusal_in l c) l (entered l c) (turns-level l.context.seed l.names (acts c))

-- matched = joined + alone + group + dropped + waiting, in the ledger of every list
pub ledger-level : (seed time : ℕ) (cs : List Call) → Level 0 (sums_of seed time cs) (waits_in (ledger_of seed time cs).names)
unfolding sums_of ledger_of waits_in
ledger-level seed time [] = refl
ledger-level seed time (c ∷ cs) = omega (arith, ledger-level seed time cs, entry-level (ledger_of seed time cs) c)
