-- What twelve functions that are lent the five arrays give by their contracts alone: the entries of a log (crate claims, specs/Claim, `Log`). The engine's own functions are one such
-- set (Functions), those that a host links another (crate host, proofs/Exports).
-- The arrays are lent anew to each call: what ties two calls is that the contents before the one are the contents after the other. An array that is not lent is any
-- list, and one that is lent to be read is the same before and after.
use Prim.Native.Nat.{ℕ}
use mathlib.Core.List.{List, []}
use lib.ListN.{length}
use contract.Lifetimes.{Lfts}
use denote.Ref.{Bor, MutBor}
use Rattle.engine.specs.Calls.{Call, NewLink, DeletedLink, NewAddress, DeletedAddress, Subscribe, Advertise, Deadvertise, Refresh, Datagram, Timeout, ResetTimer}
use Rattle.engine.specs.Arrays.{Engine, engine}
use Rattle.engine.specs.Promises.{Answered, answered}
use Rattle.engine.specs.declared.advertisement.Endpoint.{Endpoint}
use Rattle.engine.specs.declared.answer.Answer.{Answer}

-- what an array or slice that is lent to be read is seen as; its contents are `.now`
abbrev pub Loan : Type 0
Loan = Bor (List ℕ)

-- and one that is lent to be changed
abbrev pub MutLoan : Type 0
MutLoan = MutBor (List ℕ)

-- twelve functions by their contracts: what each says of the arrays before it and after it, its arguments, the outbox before and after it, and its answer
pub record Contracts : Type 1 where
  pub new : (κs : Lfts 2) (h h' : MutLoan) (ns : Loan) (seed time : ℕ) (r : Answer) → Type 0
  pub new-link : (κs : Lfts 6) (h h' ls ls' : MutLoan) (ss ns ts : Loan) (index flags outcome : ℕ) (o o' : MutLoan) (r : Answer) → Type 0
  pub deleted_link : (κs : Lfts 3) (h h' ls ls' : MutLoan) (ns : Loan) (index outcome : ℕ) (r : Answer) → Type 0
  pub new-address : (κs : Lfts 7) (h h' ls ls' : MutLoan) (ss ns ts : Loan) (index : ℕ) (a : Loan) (o o' : MutLoan) (r : Answer) → Type 0
  pub deleted_address : (κs : Lfts 4) (h h' ls ls' : MutLoan) (ns : Loan) (index : ℕ) (a : Loan) (r : Answer) → Type 0
  pub subscribe : (κs : Lfts 6) (h h' : MutLoan) (ls : Loan) (ss ss' : MutLoan) (ns k : Loan) (o o' : MutLoan) (r : Answer) → Type 0
  pub advertise : (κs : Lfts 8) (h h' : MutLoan) (ls : Loan) (ns ns' ts ts' : MutLoan) (n k l : Loan) (o o' : MutLoan) (r : Answer) → Type 0
  pub deadvertise : (κs : Lfts 6) (h h' : MutLoan) (ls : Loan) (ns ns' ts ts' : MutLoan) (n : Loan) (o o' : MutLoan) (r : Answer) → Type 0
  pub refresh : (κs : Lfts 6) (h ls ss ns ts : Loan) (o o' : MutLoan) (r : Answer) → Type 0
  pub on-data : (κs : Lfts 5) (h ss : Loan) (ns ns' ts ts' : MutLoan) (time : ℕ) (sender : Endpoint) (receiver : ℕ) (d : Loan) (r : Answer) → Type 0
  pub handle_timeout : (κs : Lfts 6) (h h' : MutLoan) (ls ss : Loan) (ns ns' : MutLoan) (ts : Loan) (time : ℕ) (o o' : MutLoan) (r : Answer) → Type 0
  pub reset : (κs : Lfts 2) (h h' : MutLoan) (ns : Loan) (time : ℕ) (r : Answer) → Type 0

-- what their `new` gives
pub data News (c : Contracts) (seed time : ℕ) : Answered → Type 0 where
  by-new : (κs : Lfts 2) (h h' : MutLoan) (ns : Loan) (links searches texts : List ℕ) (r : Answer) → c.new κs h h' ns seed time r →
      News c seed time (answered (engine h'.now links searches ns.now texts) r)

-- what each call of them gives: the contents before it, the outbox before and after it, its answer with the contents after it
pub data Gives (c : Contracts) : Engine → Call → List ℕ → List ℕ → Answered → Type 0 where
  by-new-link : (κs : Lfts 6) (h h' ls ls' : MutLoan) (ss ns ts : Loan) (index flags outcome : ℕ) (o o' : MutLoan) (r : Answer) →
      c.new-link κs h h' ls ls' ss ns ts index flags outcome o o' r →
      Gives c (engine h.now ls.now ss.now ns.now ts.now) (NewLink index flags outcome (length o.now)) o.now o'.now
      (answered (engine h'.now ls'.now ss.now ns.now ts.now) r)
  by-deleted_link : (κs : Lfts 3) (h h' ls ls' : MutLoan) (ns : Loan) (searches texts : List ℕ) (index outcome : ℕ) (r : Answer) →
      c.deleted_link κs h h' ls ls' ns index outcome r →
      Gives c (engine h.now ls.now searches ns.now texts) (DeletedLink index outcome) [] [] (answered (engine h'.now ls'.now searches ns.now texts) r)
  by-new-address : (κs : Lfts 7) (h h' ls ls' : MutLoan) (ss ns ts : Loan) (index : ℕ) (a : Loan) (o o' : MutLoan) (r : Answer) →
      c.new-address κs h h' ls ls' ss ns ts index a o o' r →
      Gives c (engine h.now ls.now ss.now ns.now ts.now) (NewAddress index a.now (length o.now)) o.now o'.now
      (answered (engine h'.now ls'.now ss.now ns.now ts.now) r)
  by-deleted_address : (κs : Lfts 4) (h h' ls ls' : MutLoan) (ns : Loan) (searches texts : List ℕ) (index : ℕ) (a : Loan) (r : Answer) →
      c.deleted_address κs h h' ls ls' ns index a r →
      Gives c (engine h.now ls.now searches ns.now texts) (DeletedAddress index a.now) [] [] (answered (engine h'.now ls'.now searches ns.now texts) r)
  by-subscribe : (κs : Lfts 6) (h h' : MutLoan) (ls : Loan) (ss ss' : MutLoan) (ns : Loan) (texts : List ℕ) (k : Loan) (o o' : MutLoan) (r : Answer) →
      c.subscribe κs h h' ls ss ss' ns k o o' r →
      Gives c (engine h.now ls.now ss.now ns.now texts) (Subscribe k.now (length o.now)) o.now o'.now
      (answered (engine h'.now ls.now ss'.now ns.now texts) r)
  by-advertise : (κs : Lfts 8) (h h' : MutLoan) (ls : Loan) (ns ns' ts ts' : MutLoan) (searches : List ℕ) (n k l : Loan) (o o' : MutLoan) (r : Answer) →
      c.advertise κs h h' ls ns ns' ts ts' n k l o o' r →
      Gives c (engine h.now ls.now searches ns.now ts.now) (Advertise n.now k.now l.now (length o.now)) o.now o'.now
      (answered (engine h'.now ls.now searches ns'.now ts'.now) r)
  by-deadvertise : (κs : Lfts 6) (h h' : MutLoan) (ls : Loan) (ns ns' ts ts' : MutLoan) (searches : List ℕ) (n : Loan) (o o' : MutLoan) (r : Answer) →
      c.deadvertise κs h h' ls ns ns' ts ts' n o o' r →
      Gives c (engine h.now ls.now searches ns.now ts.now) (Deadvertise n.now (length o.now)) o.now o'.now
      (answered (engine h'.now ls.now searches ns'.now ts'.now) r)
  by-refresh : (κs : Lfts 6) (h ls ss ns ts : Loan) (o o' : MutLoan) (r : Answer) →
      c.refresh κs h ls ss ns ts o o' r →
      Gives c (engine h.now ls.now ss.now ns.now ts.now) (Refresh (length o.now)) o.now o'.now
      (answered (engine h.now ls.now ss.now ns.now ts.now) r)
  by-on-data : (κs : Lfts 5) (h ss : Loan) (ns ns' ts ts' : MutLoan) (links : List ℕ) (time : ℕ) (sender : Endpoint) (receiver : ℕ) (d : Loan) (r : Answer) →
      c.on-data κs h ss ns ns' ts ts' time sender receiver d r →
      Gives c (engine h.now links ss.now ns.now ts.now) (Datagram time sender receiver d.now) [] []
      (answered (engine h.now links ss.now ns'.now ts'.now) r)
  by-handle_timeout : (κs : Lfts 6) (h h' : MutLoan) (ls ss : Loan) (ns ns' : MutLoan) (ts : Loan) (time : ℕ) (o o' : MutLoan) (r : Answer) →
      c.handle_timeout κs h h' ls ss ns ns' ts time o o' r →
      Gives c (engine h.now ls.now ss.now ns.now ts.now) (Timeout time (length o.now)) o.now o'.now
      (answered (engine h'.now ls.now ss.now ns'.now ts.now) r)
  by-reset : (κs : Lfts 2) (h h' : MutLoan) (ns : Loan) (links searches texts : List ℕ) (time : ℕ) (r : Answer) →
      c.reset κs h h' ns time r →
      Gives c (engine h.now links searches ns.now texts) (ResetTimer time) [] [] (answered (engine h'.now links searches ns.now texts) r)
