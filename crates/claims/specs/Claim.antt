-- Demand 3, the statement: one claim about every list of calls (document 01, 'Engine and ledger'; proved in proofs/Demand3). `Claim`, at the end, says it.
-- It rests on the ledger (Ledger), on what the calls promise (engine/specs/Promises: `Begins`, `Answers`) and on the records and their bytes (engine/specs: Records, Layout).
-- A list is given the latest call first, so that the calls before one are the rest of the list. `In x l` says that x stands in l.
use Rattle.std.specs.Prelude.{ℕ, suc, ◌+◌, ◌≤◌, ◌<◌, ◌≡◌, true, false, cond, length}
use mathlib.Core.List.{List, [], ◌∷◌, ◌++◌, Memᴰ as In}
use Rattle.std.proofs.Math.Option.{none, some}
use Rattle.engine.specs.Sizes.{records_max}
use Rattle.engine.specs.Target.{target_match}
use Rattle.engine.specs.Held.{Advertisement}
use Rattle.engine.specs.Calls.{Call, Timeout, Query, Asks, acts, Counts, zeros, plus}
use Rattle.engine.specs.Links.{up_addresses}
use Rattle.engine.specs.Records.{Record, salvo_due}
use Rattle.engine.specs.Layout.{text_of, message_of, written}
use Rattle.engine.specs.Engine.{step}
use Rattle.engine.specs.Arrays.{Engine, held}
use Rattle.engine.specs.Promises.{Answered}
use Rattle.claims.specs.Ledger.{Wait, Name, with_wait, waits_in, opened, lone_reply, replies_to, Ledger, refusal_in, entry, ledger_of, sums_of, ledger_refresh, ledger_records}
use Rattle.engine.specs.declared.advertisement.ResponseNeeded.{ResponseNeeded}
use Rattle.engine.specs.declared.advertisement.ResponseNeeded.TheVariants.{None, Multicast, Unicast}
use Rattle.engine.specs.declared.answer.Answer.{Answer}

-- A list begins with one `new`, accepted or refused; then each call gets the engine that the call before it returned, with any arguments and any outbox.
-- New and Gives say what the calls may have given: by the definitions `Begins` and `Answers`, or what a caller learns from the functions' contracts.
pub data Log (New : ℕ → ℕ → Answered → Type 0) (Gives : Engine → Call → List ℕ → List ℕ → Answered → Type 0) (seed time : ℕ) : List Call → List Answer → Engine → Type 0 where
  new : {r : Answered} → New seed time r → Log New Gives seed time [] (r.answer ∷ []) r.engine
  call : {cs : List Call} {as' : List Answer} {e : Engine} {c : Call} {outbox outbox' : List ℕ} {r : Answered} →
      Log New Gives seed time cs as' e → Gives e c outbox outbox' r → Log New Gives seed time (c ∷ cs) (r.answer ∷ as') r.engine

-- the five counts of an answer, their sums over a list, and the waiting of the last answer
abbrev pub counts_of : Answer → Counts
counts_of a = record { matched = a.matched; joined = a.joined; alone = a.alone; group = a.group; dropped = a.dropped }

unfoldable pub total : List Answer → Counts
total [] = zeros
total (a ∷ as') = plus (counts_of a) (total as')

unfoldable pub last_waiting : List Answer → ℕ
last_waiting [] = 0
last_waiting (a ∷ as') = a.waiting

-- The accepted search of a list that opened the wait of a name: the name was held without one, and the target matches its type. The wait bears that
-- search's sender and receiving address, and as answer type its target, or the name's type for `ssdp:all` (Ledger, `opened`).
-- Behind each later call the name is held with that very wait; so an equal search whose wait was dropped or sent before is not its opener.
pub data Opened (seed time : ℕ) : List Call → Name → Type 0 where
  here : {c : Call} {cs : List Call} {n : Name} (q : Query) → refusal_in (ledger_of seed time cs) c ≡ 0 → acts c ≡ Asks q ∷ [] →
      In n (ledger_of seed time cs).names → n.wait ≡ none → target_match q.target n.service ≡ true →
      Opened seed time (c ∷ cs) (with_wait n (some (opened seed q n.service)))
  later : {c : Call} {cs : List Call} {n : Name} → Opened seed time cs n → In n (ledger_of seed time (c ∷ cs)).names → Opened seed time (c ∷ cs) n

-- how many calls of the list came behind the opener
abbrev pub since : {seed time : ℕ} {cs : List Call} {n : Name} → Opened seed time cs n → ℕ
since (here q k a i e m) = 0
since (later o i) = suc (since o)

-- a waiting reply that is not due at or before now
abbrev pub After : ℕ → ResponseNeeded → Type 0
After now None = Unit {0}
After now (Multicast due) = now < due
After now (Unicast due sender receiver) = now < due

-- the records of a handle_timeout: the refresh records, if the salvo is due, then those of each wait that it ended
abbrev pub timeout_records : Ledger → ℕ → List Record
timeout_records l now =
    cond (salvo_due l.context now) (ledger_refresh l.context l.names) [] ++ ledger_records now (up_addresses l.context.links) l.names

-- a lone reply that was sent: exactly one record, to its sender, from its receiving address, with its answer type and its name (Ledger, `lone_reply`);
-- opened by one accepted search of the list; with an answer type that matches the advertised one
pub record Lone (seed time : ℕ) (cs : List Call) (n : Name) (w : Wait) : Type 0 where
  pub reply : replies_to (up_addresses (ledger_of seed time cs).context.links) n n.wait ≡ lone_reply n w ∷ []
  pub opening : Opened seed time cs n
  pub sole : (o : Opened seed time cs n) → since o ≡ since opening
  pub matching : target_match w.answer n.service ≡ true

-- an accepted handle_timeout, behind the calls cs; rs are the records that it writes
pub record Serves (seed time : ℕ) (cs : List Call) (now : ℕ) (r : Answered) (rs : List Record) : Type 0 where
  -- right after it nothing is due
  pub none-due : (a : Advertisement) → In a (held r.engine).advertisements → After now a.needed
  -- its records are the ledger's: the refresh records of its names, and those of its waits that this call ended
  pub records : rs ≡ timeout_records (ledger_of seed time cs) now
  pub lone : (n : Name) (w : Wait) → In n (ledger_of seed time cs).names → n.wait ≡ some w → w.group ≡ false → w.due ≤ now → Lone seed time cs n w

-- a call, behind the calls cs; rs are the records that it writes
pub record Exact (seed time : ℕ) (cs : List Call) (c : Call) (outbox outbox' : List ℕ) (r : Answered) (rs : List Record) : Type 0 where
  -- it is refused by the ledger's number
  pub refusal : r.answer.refusal ≡ refusal_in (ledger_of seed time cs) c
  -- its counts are what the ledger adds in that call, its waiting the waits that the ledger then holds
  pub counts : counts_of r.answer ≡ (entry (ledger_of seed time cs) c).adds
  pub waiting : r.answer.waiting ≡ waits_in (ledger_of seed time (c ∷ cs)).names
  -- the outbox begins with its records, which are at most 120; the message of each is the built text (engine/specs/Layout, `text_of`)
  pub bytes : outbox' ≡ written rs outbox
  pub records : r.answer.records ≡ length rs
  pub bounded : length rs ≤ records_max
  pub messages : (m : Record) → In m rs → message_of m ≡ text_of m
  pub serves : (now room : ℕ) → c ≡ Timeout now room → r.answer.refusal ≡ 0 → Serves seed time cs now r rs

abbrev pub Every : {New : ℕ → ℕ → Answered → Type 0} {Gives : Engine → Call → List ℕ → List ℕ → Answered → Type 0} {seed time : ℕ} {cs : List Call} {as' : List Answer} {e : Engine} →
    Log New Gives seed time cs as' e → Type 0
Every (new h) = Unit {0}
Every {seed = seed} {time = time} (call {cs = cs} {e = e} {c = c} {outbox = outbox} {outbox' = outbox'} {r = r} l h) = Exact seed time cs c outbox outbox' r (step (held e) c).sent × Every l

-- DEMAND 3
pub record Claim {New : ℕ → ℕ → Answered → Type 0} {Gives : Engine → Call → List ℕ → List ℕ → Answered → Type 0} {seed time : ℕ} {cs : List Call} {as' : List Answer} {e : Engine}
    (l : Log New Gives seed time cs as' e) : Type 0 where
  -- the five sums, and the waiting of the last answer, are the ledger's for that list
  pub sums : total as' ≡ sums_of seed time cs
  pub waiting : last_waiting as' ≡ waits_in (ledger_of seed time cs).names
  -- matched = joined + alone + group + dropped + waiting
  pub identity : (total as').matched ≡ (total as').joined + (total as').alone + (total as').group + (total as').dropped + last_waiting as'
  pub every : Every l
