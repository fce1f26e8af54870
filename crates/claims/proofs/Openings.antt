-- Where a lone wait comes from: in the ledger of every list, each was opened by one accepted search of the list, and its answer type matches the name's type.
-- A wait that is still lone after a later search is the very wait that it was.
use mathlib.Core.Path.{◌≡◌, refl, sym, ◌∙◌, ap, subst}
use mathlib.Core.Bool.{Bool, true, false, cond, ◌||◌}
use mathlib.Core.List.Memᴰ.{head as first}
use mathlib.Core.List.Memᴰ.{tail as after}
use mathlib.Core.List.{List, [], ◌∷◌, map, Memᴰ as In}
use mathlib.Core.Option.{Option, none, some}
use Prim.Native.Nat.{ℕ, zero, suc}
use native.Mathlib.Omega.{arith}
use Rattle.text.specs.Bytes.{equal}
use Rattle.engine.specs.Target.{ssdp_all, target_match}
use Rattle.engine.specs.Held.{Text, Context}
use Rattle.engine.specs.Calls.{Call, NewLink, DeletedLink, NewAddress, DeletedAddress, Subscribe, Advertise, Deadvertise, Refresh, Datagram, Timeout, ResetTimer, Query, Act, Enters, Leaves, Asks, Ticks, acts}
use Rattle.engine.specs.Links.{context_after}
use Rattle.claims.specs.Ledger.{Wait, Name, named, with_wait, wait_count, Change, opened, joined, searched, due_at, timed_out, each, acted, acted_all, Ledger, refusal_in, entered, if_accepted, entry, ledger_of}
use Rattle.claims.specs.Claim.{Opened, here, later, since}
use Rattle.engine.proofs.Accepted.{Single, single}
use Rattle.claims.proofs.Ascending.{Ascending, empty, ascending_enter, ascending_leave, ascending_map, in_one}
use Rattle.claims.proofs.LeafLaws.{Laws}
use Rattle.claims.proofs.Orders.{by_name_lem}
use Rattle.engine.proofs.Members.{Each, nobody, both, each_at, each-by, each-as, each-enter, each-leave}

abbrev pub LoneWait : Option Wait → Type 0
LoneWait none = ⊥
LoneWait (some w) = w.group ≡ false

abbrev pub Traced : ℕ → ℕ → List Call → Name → Type 0
Traced seed time cs n = In n (ledger_of seed time cs).names → LoneWait n.wait → Opened seed time cs n

-- a wait that is lone after a search joined it was lone before, and is the same
or_left : (b c : Bool) → (b || c) ≡ false → b ≡ false
or_left true c e = e
or_left false c e = refl

joined-lone : (q : Query) (w : Wait) → (joined q w).group ≡ false → w.group ≡ false → w ≡ joined q w
joined-lone q w e f = λ i. record { due = w.due; sender = w.sender; receiver = w.receiver; answer = w.answer; group = (f ∙ sym e) i }

module _ (seed time : ℕ) (cs : List Call) (c : Call) (k : refusal_in (ledger_of seed time cs) c ≡ 0) where
  searched-traced : (q : Query) → acts c ≡ Asks q ∷ [] → (n : Name) → In n (ledger_of seed time cs).names → (b : Bool) (o : Option Wait) →
      target_match q.target n.service ≡ b → n.wait ≡ o → Traced seed time (c ∷ cs) n → Traced seed time (c ∷ cs) (with_wait n (searched b seed q n.service o).wait)
  searched-traced q a n i false o m e h = subst (λ (x : Option Wait). Traced seed time (c ∷ cs) (with_wait n x)) e h
  searched-traced q a n i true none m e h = λ _ _. here q k a i e m
  searched-traced q a n i true (some w) m e h = λ j g.
      let f : w.group ≡ false = or_left w.group _ g in
      subst (λ (x : Wait). Traced seed time (c ∷ cs) (with_wait n (some x))) (joined-lone q w g f)
      (subst (λ (x : Option Wait). Traced seed time (c ∷ cs) (with_wait n x)) e h) j g

  timed-traced : (n : Name) (b : Bool) (o : Option Wait) → n.wait ≡ o → Traced seed time (c ∷ cs) n → Traced seed time (c ∷ cs) (with_wait n (timed_out b o).wait)
  timed-traced n false o e h = subst (λ (x : Option Wait). Traced seed time (c ∷ cs) (with_wait n x)) e h
  timed-traced n true none e h = λ _ g. absurd g
  timed-traced n true (some w) e h = λ _ g. absurd g

-- what each name keeps, all keep
each_turn : {P Q : Name → Type 0} (f : Name → Change) → ((n : Name) → Q n → P (with_wait n (f n).wait)) → {ns : List Name} → Each Q ns → Each P (each f ns).names
unfolding each
each_turn f g nobody = nobody
each_turn f g (both {a = n} q h) = both (g n q) (each_turn f g h)

-- ---- an accepted call
-- a name of the list that is traced
abbrev Member : ℕ → ℕ → List Call → Call → Name → Type 0
Member seed time cs c n = In n (ledger_of seed time cs).names × Traced seed time (c ∷ cs) n

module _ (seed time : ℕ) (cs : List Call) (c : Call) (k : refusal_in (ledger_of seed time cs) c ≡ 0) where
  turn-traced : (x : Act) → acts c ≡ x ∷ [] → {ns : List Name} → Each (Member seed time cs c) ns → Each (Traced seed time (c ∷ cs)) (acted seed ns x).names
  unfolding acted
  turn-traced (Enters name service location) e h =
      each-enter named (record { name = name; service = service; location = location; wait = none }) (λ _ g. absurd g) (each-as (λ n m. m.1) h)
  turn-traced (Leaves name) e h = each-leave named name (each-as (λ n m. m.1) h)
  turn-traced (Asks q) e h =
      each_turn (λ n. searched (target_match q.target n.service) seed q n.service n.wait)
      (λ n m. searched-traced seed time cs c k q e n m.0 (target_match q.target n.service) n.wait refl refl m.1) h
  turn-traced (Ticks now) e h =
      each_turn (λ n. timed_out (due_at now n.wait) n.wait) (λ n m. timed-traced seed time cs c k n (due_at now n.wait) n.wait refl m.1) h

  turns-traced : (xs : List Act) → acts c ≡ xs → Single xs → {ns : List Name} → Each (Member seed time cs c) ns → Each (Traced seed time (c ∷ cs)) (acted_all seed ns xs).names
  unfolding acted_all
  turns-traced [] e s h = each-as (λ n m. m.1) h
  turns-traced (x ∷ []) e s h = turn-traced x e h
  turns-traced (x ∷ y ∷ xs) e s h = absurd s

-- the seed stays
seed-after : (x : Context) (c : Call) → (context_after x c).seed ≡ x.seed
unfolding context_after
seed-after x (NewLink index flags outcome room) = refl
seed-after x (DeletedLink index outcome) = refl
seed-after x (NewAddress index address room) = refl
seed-after x (DeletedAddress index address) = refl
seed-after x (Subscribe service room) = refl
seed-after x (Advertise name service location room) = refl
seed-after x (Deadvertise name room) = refl
seed-after x (Refresh room) = refl
seed-after x (Datagram now sender receiver s) = refl
seed-after x (Timeout now room) = refl
seed-after x (ResetTimer now) = refl

seed-entry : (k : ℕ) (l : Ledger) (c : Call) → (if_accepted k l (entered l c)).ledger.context.seed ≡ l.context.seed
unfolding entered
seed-entry zero l c = seed-after l.context c
seed-entry (suc k) l c = refl

seed-kept : (seed time : ℕ) (cs : List Call) → (ledger_of seed time cs).context.seed ≡ seed
unfolding ledger_of entry
seed-kept seed time [] = refl
seed-kept seed time (c ∷ cs) = seed-entry (refusal_in (ledger_of seed time cs) c) (ledger_of seed time cs) c ∙ seed-kept seed time cs

entry-traced : (seed time : ℕ) (cs : List Call) (c : Call) (k : ℕ) → refusal_in (ledger_of seed time cs) c ≡ k →
    Each (Member seed time cs c) (ledger_of seed time cs).names →
    Each (Traced seed time (c ∷ cs)) (if_accepted k (ledger_of seed time cs) (entered (ledger_of seed time cs) c)).ledger.names
unfolding entered
entry-traced seed time cs c zero e h =
    subst (λ (s : ℕ). Each (Traced seed time (c ∷ cs)) (acted_all s (ledger_of seed time cs).names (acts c)).names) (sym (seed-kept seed time cs))
    (turns-traced seed time cs c e (acts c) refl (single c) h)
entry-traced seed time cs c (suc k) e h = each-as (λ n m. m.1) h

pub traced : (seed time : ℕ) (cs : List Call) → Each (Traced seed time cs) (ledger_of seed time cs).names
unfolding ledger_of entry
traced seed time [] = nobody
traced seed time (c ∷ cs) =
    let h = traced seed time cs in
    entry-traced seed time cs c (refusal_in (ledger_of seed time cs) c) refl
    (each-by (ledger_of seed time cs).names (λ n i. (i, λ j g. later (each_at h n i i g) j)))

-- ---- one opener
-- a search puts each name that it changes where it was
in_each : (f : Name → Change) (n : Name) {ns : List Name} → In n ns → In (with_wait n (f n).wait) (each f ns).names
unfolding each
in_each f n (first e) = first (ap (λ (m : Name). with_wait m (f m).wait) e)
in_each f n (after i) = after (in_each f n i)

searched-opens : (b : Bool) (seed : ℕ) (q : Query) (service : Text) (o : Option Wait) → b ≡ true → o ≡ none → (searched b seed q service o).wait ≡ some (opened seed q service)
searched-opens b seed q service o e f = rw (e, f)

asked_in : (seed : ℕ) (ns : List Name) (q : Query) (n : Name) → In n ns → n.wait ≡ none → target_match q.target n.service ≡ true →
    In (with_wait n (some (opened seed q n.service))) (acted_all seed ns (Asks q ∷ [])).names
unfolding acted_all acted
asked_in seed ns q n i e m =
    let f : Name → Change = λ n. searched (target_match q.target n.service) seed q n.service n.wait in
    subst (λ (x : Option Wait). In (with_wait n x) (each f ns).names) (searched-opens (target_match q.target n.service) seed q n.service n.wait m e) (in_each f n i)

entered-in : (k : ℕ) (l : Ledger) (c : Call) (n : Name) → k ≡ 0 → In n (acted_all l.context.seed l.names (acts c)).names →
    In n (if_accepted k l (entered l c)).ledger.names
unfolding entered
entered-in zero l c n e i = i
entered-in (suc k) l c n e i = absurd (omega arith)

-- what was opened is held
opened_in : (seed time : ℕ) {cs : List Call} {n : Name} → Opened seed time cs n → In n (ledger_of seed time cs).names
unfolding ledger_of entry
opened_in seed time (here {c = c} {cs = cs} {n = n} q k a i e m) =
    entered-in (refusal_in (ledger_of seed time cs) c) (ledger_of seed time cs) c (with_wait n (some (opened seed q n.service))) k
    (subst (λ (xs : List Act). In (with_wait n (some (opened seed q n.service))) (acted_all (ledger_of seed time cs).context.seed (ledger_of seed time cs).names xs).names) (sym a)
    (subst (λ (s : ℕ). In (with_wait n (some (opened seed q n.service))) (acted_all s (ledger_of seed time cs).names (Asks q ∷ [])).names) (sym (seed-kept seed time cs))
    (asked_in seed (ledger_of seed time cs).names q n i e m)))
opened_in seed time (later o i) = i

-- each name stands once in the ledger
each-names : (f : Name → Change) (ns : List Name) → (each f ns).names ≡ map (λ n. with_wait n (f n).wait) ns
unfolding each
each-names f [] = refl
each-names f (n ∷ ns) = ap (λ (l : List Name). with_wait n (f n).wait ∷ l) (each-names f ns)

ascending_each : (f : Name → Change) {ns : List Name} → Ascending named ns → Ascending named (each f ns).names
ascending_each f {ns} h = subst (Ascending named) (sym (each-names f ns)) (ascending_map named (λ n. with_wait n (f n).wait) (λ n. refl) h)

ascending_turn : (seed : ℕ) (x : Act) {ns : List Name} → Ascending named ns → Ascending named (acted seed ns x).names
unfolding acted
ascending_turn seed (Enters name service location) h = ascending_enter named by_name_lem (record { name = name; service = service; location = location; wait = none }) h
ascending_turn seed (Leaves name) h = ascending_leave named by_name_lem name h
ascending_turn seed (Asks q) h = ascending_each (λ n. searched (target_match q.target n.service) seed q n.service n.wait) h
ascending_turn seed (Ticks now) h = ascending_each (λ n. timed_out (due_at now n.wait) n.wait) h

ascending_turns : (seed : ℕ) (xs : List Act) {ns : List Name} → Ascending named ns → Ascending named (acted_all seed ns xs).names
unfolding acted_all
ascending_turns seed [] h = h
ascending_turns seed (x ∷ xs) h = ascending_turns seed xs (ascending_turn seed x h)

ascending_entry : (k : ℕ) (l : Ledger) (c : Call) → Ascending named l.names → Ascending named (if_accepted k l (entered l c)).ledger.names
unfolding entered
ascending_entry zero l c h = ascending_turns l.context.seed (acts c) h
ascending_entry (suc k) l c h = h

ledger-ascending : (seed time : ℕ) (cs : List Call) → Ascending named (ledger_of seed time cs).names
unfolding ledger_of entry
ledger-ascending seed time [] = empty
ledger-ascending seed time (c ∷ cs) = ascending_entry (refusal_in (ledger_of seed time cs) c) (ledger_of seed time cs) c (ledger-ascending seed time cs)

-- so a name that is held without a wait is not held with one, and a search that opens one finds none opened before
clash : (seed time : ℕ) (cs : List Call) (n : Name) (w : Wait) → In n (ledger_of seed time cs).names → n.wait ≡ none → In (with_wait n (some w)) (ledger_of seed time cs).names → ⊥
clash seed time cs n w i e j =
    let p = in_one named by_name_lem (ledger-ascending seed time cs) n (with_wait n (some w)) i j refl in
    omega (arith, ap wait_count (sym e ∙ ap (λ (m : Name). m.wait) p))

pub sole-opener : (seed time : ℕ) {cs : List Call} {n m : Name} (o : Opened seed time cs n) (p : Opened seed time cs m) → n ≡ m → since o ≡ since p
sole-opener seed time (here q k a i e m) (here q' k' a' i' e' m') s = refl
sole-opener seed time (here {cs = cs} {n = n} q k a i e m) (later p j) s =
    absurd (clash seed time cs n (opened seed q n.service) i e (subst (λ (x : Name). In x (ledger_of seed time cs).names) (sym s) (opened_in seed time p)))
sole-opener seed time (later o j) (here {cs = cs} {n = n} q k a i e m) s =
    absurd (clash seed time cs n (opened seed q n.service) i e (subst (λ (x : Name). In x (ledger_of seed time cs).names) s (opened_in seed time o)))
sole-opener seed time (later o j) (later p j') s = ap suc (sole-opener seed time o p s)

-- ---- what a lone wait answers matches the advertised type
answer-matches : (laws : Laws) (b : Bool) (q : Query) (service : Text) → target_match q.target service ≡ true → target_match (cond b service q.target) service ≡ true
answer-matches laws true q service e = laws.match_self service
answer-matches laws false q service e = e

abbrev pub Answering : Text → Option Wait → Type 0
Answering service none = Unit {0}
Answering service (some w) = target_match w.answer service ≡ true

pub opened-matches : (laws : Laws) (seed time : ℕ) {cs : List Call} {n : Name} → Opened seed time cs n → Answering n.service n.wait
opened-matches laws seed time (here {n = n} q k a i e m) = answer-matches laws (equal q.target ssdp_all) q n.service m
opened-matches laws seed time (later o i) = opened-matches laws seed time o
