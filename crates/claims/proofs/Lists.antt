-- Demand 3 about the functions: the claim of each log whose entries are what the functions' own contracts give a caller (crate engine, proofs/Functions), and that every list of
-- calls has such a log. The exported functions have the contracts of the engine's to the letter (crate host, proofs/Exports), so that both are theirs as they stand.
use Prim.Native.Nat.{ℕ}
use mathlib.Core.List.{List, []}
use Rattle.engine.specs.Calls.{Call}
use Rattle.engine.specs.Arrays.{Engine}
use Rattle.engine.specs.Promises.{Answered, Answers, Begins}
use Rattle.engine.specs.declared.answer.Answer.{Answer}
use Rattle.engine.proofs.Contracts.{Loan, MutLoan, News, by-new, Gives, by-new-link, by-deleted_link, by-new-address, by-deleted_address, by-subscribe, by-advertise, by-deadvertise, by-refresh, by-on-data, by-handle_timeout, by-reset}
use Rattle.engine.proofs.Functions.{functions}
use Rattle.host.proofs.Exports.{exports}
use Rattle.claims.specs.Claim.{Log, Claim}
use Rattle.claims.specs.EveryList.{Word, Lent, Logged}
use Rattle.claims.specs.Window.{EachInTime}
use Rattle.claims.proofs.LeafLaws.{laws}
use Rattle.claims.proofs.Demand3.{demand3}
use Rattle.claims.proofs.Windows.{in_time}
use Rattle.claims.proofs.EveryList.{Given, log-of}

begins : (seed time : ℕ) (r : Answered) → News functions seed time r → Begins seed time r
begins seed time _ (by-new κs h h' ns links searches texts r p) = p links searches texts

answers : (e : Engine) (c : Call) (outbox outbox' : List ℕ) (r : Answered) → Gives functions e c outbox outbox' r → Answers e c outbox outbox' r
answers _ _ _ _ _ (by-new-link κs h h' ls ls' ss ns ts index flags outcome o o' r p) = p
answers _ _ _ _ _ (by-deleted_link κs h h' ls ls' ns searches texts index outcome r p) = p searches texts
answers _ _ _ _ _ (by-new-address κs h h' ls ls' ss ns ts index a o o' r p) = p
answers _ _ _ _ _ (by-deleted_address κs h h' ls ls' ns searches texts index a r p) = p searches texts
answers _ _ _ _ _ (by-subscribe κs h h' ls ss ss' ns texts k o o' r p) = p texts
answers _ _ _ _ _ (by-advertise κs h h' ls ns ns' ts ts' searches n k l o o' r p) = p searches
answers _ _ _ _ _ (by-deadvertise κs h h' ls ns ns' ts ts' searches n o o' r p) = p searches
answers _ _ _ _ _ (by-refresh κs h ls ss ns ts o o' r p) = p
answers _ _ _ _ _ (by-on-data κs h ss ns ns' ts ts' links time sender receiver d r p) = p links
answers _ _ _ _ _ (by-handle_timeout κs h h' ls ss ns ns' ts time o o' r p) = p
answers _ _ _ _ _ (by-reset κs h h' ns links searches texts time r p) = p links searches texts

-- DEMAND 3, of every log of the functions' answers
pub functions-claim : {seed time : ℕ} {cs : List Call} {as' : List Answer} {e : Engine} → (l : Log (News functions) (Gives functions) seed time cs as' e) → Claim l
functions-claim l = demand3 laws begins answers l

-- what an accepted search opens is due inside its window
pub functions-in-time : EachInTime (Gives functions)
functions-in-time e c outbox outbox' r q g = in_time q (answers e c outbox outbox' r g)

-- ---- each list has such a log: the contracts give each call on all contents
-- an array lent at some place for some time
lend : List ℕ → Loan
lend l = record { ref_ptr = (0, 0); now = l }

-- and one lent to be changed
lend_mut : List ℕ → MutLoan
lend_mut l = record { ref_ptr = (0, 0); ghost_name = 0; now = l }

functions-give : Given (News functions) (Gives functions)
unfolding lend lend_mut
functions-give = record {
  by-new = λ seed time head' numbers r p links searches texts. by-new ([], ([], tt)) (lend_mut []) (lend_mut head') (lend numbers) links searches texts r p;
  by-new-link = λ h h' ls ls' ss ns ts index flags outcome o o' r p.
      by-new-link ([], ([], ([], ([], ([], ([], tt)))))) (lend_mut h) (lend_mut h') (lend_mut ls) (lend_mut ls') (lend ss) (lend ns) (lend ts) index flags outcome (lend_mut o) (lend_mut o') r p;
  by-deleted_link = λ h h' ls ls' ns index outcome r p searches texts.
      by-deleted_link ([], ([], ([], tt))) (lend_mut h) (lend_mut h') (lend_mut ls) (lend_mut ls') (lend ns) searches texts index outcome r p;
  by-new-address = λ h h' ls ls' ss ns ts index a o o' r p.
      by-new-address ([], ([], ([], ([], ([], ([], ([], tt))))))) (lend_mut h) (lend_mut h') (lend_mut ls) (lend_mut ls') (lend ss) (lend ns) (lend ts) index (lend a) (lend_mut o) (lend_mut o') r p;
  by-deleted_address = λ h h' ls ls' ns index a r p searches texts.
      by-deleted_address ([], ([], ([], ([], tt)))) (lend_mut h) (lend_mut h') (lend_mut ls) (lend_mut ls') (lend ns) searches texts index (lend a) r p;
  by-subscribe = λ h h' ls ss ss' ns k o o' r p texts.
      by-subscribe ([], ([], ([], ([], ([], ([], tt)))))) (lend_mut h) (lend_mut h') (lend ls) (lend_mut ss) (lend_mut ss') (lend ns) texts (lend k) (lend_mut o) (lend_mut o') r p;
  by-advertise = λ h h' ls ns ns' ts ts' n k l o o' r p searches.
      by-advertise ([], ([], ([], ([], ([], ([], ([], ([], tt)))))))) (lend_mut h) (lend_mut h') (lend ls) (lend_mut ns) (lend_mut ns') (lend_mut ts) (lend_mut ts') searches (lend n) (lend k) (lend l) (lend_mut o) (lend_mut o') r p;
  by-deadvertise = λ h h' ls ns ns' ts ts' n o o' r p searches.
      by-deadvertise ([], ([], ([], ([], ([], ([], tt)))))) (lend_mut h) (lend_mut h') (lend ls) (lend_mut ns) (lend_mut ns') (lend_mut ts) (lend_mut ts') searches (lend n) (lend_mut o) (lend_mut o') r p;
  by-refresh = λ h ls ss ns ts o o' r p.
      by-refresh ([], ([], ([], ([], ([], ([], tt)))))) (lend h) (lend ls) (lend ss) (lend ns) (lend ts) (lend_mut o) (lend_mut o') r p;
  by-on-data = λ h ss ns ns' ts ts' time sender receiver d r p links.
      by-on-data ([], ([], ([], ([], ([], tt))))) (lend h) (lend ss) (lend_mut ns) (lend_mut ns') (lend_mut ts) (lend_mut ts') links time sender receiver (lend d) r p;
  by-handle_timeout = λ h h' ls ss ns ns' ts time o o' r p.
      by-handle_timeout ([], ([], ([], ([], ([], ([], tt)))))) (lend_mut h) (lend_mut h') (lend ls) (lend ss) (lend_mut ns) (lend_mut ns') (lend ts) time (lend_mut o) (lend_mut o') r p;
  by-reset = λ h h' ns time r p links searches texts. by-reset ([], ([], tt)) (lend_mut h) (lend_mut h') (lend ns) links searches texts time r p;
}

pub functions-logged : (seed time : ℕ) → Word seed → (lent : List (Call × List ℕ)) → Lent lent → Logged (News functions) (Gives functions) seed time lent
functions-logged = log-of functions-give

-- ---- the same of the exported functions
pub exports-claim : {seed time : ℕ} {cs : List Call} {as' : List Answer} {e : Engine} → (l : Log (News exports) (Gives exports) seed time cs as' e) → Claim l
exports-claim l = functions-claim l

pub exports-in-time : EachInTime (Gives exports)
exports-in-time = functions-in-time

pub exports-logged : (seed time : ℕ) → Word seed → (lent : List (Call × List ℕ)) → Lent lent → Logged (News exports) (Gives exports) seed time lent
exports-logged = functions-logged
