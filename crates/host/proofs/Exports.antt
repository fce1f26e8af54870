-- The functions that a host links, by their own contracts, as src/exported.rt has them (Learnt sees that they are what Rattle makes of the source). They are the contracts of the engine's
-- functions to the letter, so that the claim about every list of those (crate claims) is about theirs too.
use mathlib.Core.Path.{◌≡◌, refl}
use Prim.Native.Nat.{ℕ}
use mathlib.Core.List.{List, []}
use lib.ListN.{length}
use Rattle.engine.specs.Calls.{NewLink, DeletedLink, NewAddress, DeletedAddress, Subscribe, Advertise, Deadvertise, Refresh, Datagram, Timeout, ResetTimer}
use Rattle.engine.specs.Arrays.{engine}
use Rattle.engine.specs.Promises.{answered, Answers, Begins}
use Rattle.engine.proofs.Contracts.{Contracts}
use Rattle.engine.proofs.Functions.{functions}

abbrev pub exports : Contracts
exports = record {
  new = λ κs h h' ns seed time r. (links searches texts : List ℕ) → Begins seed time (answered (engine h'.now links searches ns.now texts) r);
  new-link = λ κs h h' ls ls' ss ns ts index flags outcome o o' r.
      Answers (engine h.now ls.now ss.now ns.now ts.now) (NewLink index flags outcome (length o.now)) o.now o'.now (answered (engine h'.now ls'.now ss.now ns.now ts.now) r);
  deleted_link = λ κs h h' ls ls' ns index outcome r.
      (searches texts : List ℕ) → Answers (engine h.now ls.now searches ns.now texts) (DeletedLink index outcome) [] [] (answered (engine h'.now ls'.now searches ns.now texts) r);
  new-address = λ κs h h' ls ls' ss ns ts index a o o' r.
      Answers (engine h.now ls.now ss.now ns.now ts.now) (NewAddress index a.now (length o.now)) o.now o'.now (answered (engine h'.now ls'.now ss.now ns.now ts.now) r);
  deleted_address = λ κs h h' ls ls' ns index a r.
      (searches texts : List ℕ) → Answers (engine h.now ls.now searches ns.now texts) (DeletedAddress index a.now) [] [] (answered (engine h'.now ls'.now searches ns.now texts) r);
  subscribe = λ κs h h' ls ss ss' ns k o o' r.
      (texts : List ℕ) → Answers (engine h.now ls.now ss.now ns.now texts) (Subscribe k.now (length o.now)) o.now o'.now (answered (engine h'.now ls.now ss'.now ns.now texts) r);
  advertise = λ κs h h' ls ns ns' ts ts' n k l o o' r.
      (searches : List ℕ) → Answers (engine h.now ls.now searches ns.now ts.now) (Advertise n.now k.now l.now (length o.now)) o.now o'.now (answered (engine h'.now ls.now searches ns'.now ts'.now) r);
  deadvertise = λ κs h h' ls ns ns' ts ts' n o o' r.
      (searches : List ℕ) → Answers (engine h.now ls.now searches ns.now ts.now) (Deadvertise n.now (length o.now)) o.now o'.now (answered (engine h'.now ls.now searches ns'.now ts'.now) r);
  refresh = λ κs h ls ss ns ts o o' r.
      Answers (engine h.now ls.now ss.now ns.now ts.now) (Refresh (length o.now)) o.now o'.now (answered (engine h.now ls.now ss.now ns.now ts.now) r);
  on-data = λ κs h ss ns ns' ts ts' time sender receiver d r.
      (links : List ℕ) → Answers (engine h.now links ss.now ns.now ts.now) (Datagram time (record { address = sender.address; port = sender.port }) receiver d.now) [] [] (answered (engine h.now links ss.now ns'.now ts'.now) r);
  handle_timeout = λ κs h h' ls ss ns ns' ts time o o' r.
      Answers (engine h.now ls.now ss.now ns.now ts.now) (Timeout time (length o.now)) o.now o'.now (answered (engine h'.now ls.now ss.now ns'.now ts.now) r);
  reset = λ κs h h' ns time r.
      (links searches texts : List ℕ) → Answers (engine h.now links searches ns.now texts) (ResetTimer time) [] [] (answered (engine h'.now links searches ns.now texts) r);
}

pub exports-same : exports ≡ functions
exports-same = refl
