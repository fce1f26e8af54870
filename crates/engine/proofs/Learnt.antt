-- What each of the engine's twelve functions gives whoever calls it (`Learnt`, which Rattle makes of the source) is what Functions says of it, to the letter: an edit of what a contract in src/ ensures
-- would be refused here. `Learnt` holds no `requires`; that none of them has one is seen by .ci/same-clauses.
use mathlib.Core.Path.{◌≡◌, refl}
use Rattle.engine.proofs.Contracts.{Contracts}
use Rattle.engine.proofs.Functions.{functions}
use Rattle.engine.proofs.calls.new.Reads as new
use Rattle.engine.proofs.calls.new_link.Reads as new-link
use Rattle.engine.proofs.calls.deleted_link.Reads as deleted_link
use Rattle.engine.proofs.calls.new_address.Reads as new-address
use Rattle.engine.proofs.calls.deleted_address.Reads as deleted_address
use Rattle.engine.proofs.calls.subscribe.Reads as subscribe
use Rattle.engine.proofs.calls.advertise.Reads as advertise
use Rattle.engine.proofs.calls.deadvertise.Reads as deadvertise
use Rattle.engine.proofs.calls.refresh.Reads as refresh
use Rattle.engine.proofs.calls.on_data.Reads as on-data
use Rattle.engine.proofs.calls.handle_timeout.Reads as handle_timeout
use Rattle.engine.proofs.calls.reset_refresh_timer.Reads as reset

-- the contract of each, as its caller has it
abbrev pub learnt : Contracts
learnt = record {
  new = λ κs h h' ns seed time r. new.Learnt κs (h, (ns, (seed, (time, tt)))) r (h', (ns, (seed, (time, tt))));
  new-link = λ κs h h' ls ls' ss ns ts index flags outcome o o' r.
      new-link.Learnt κs (h, (ls, (ss, (ns, (ts, (index, (flags, (outcome, (o, tt))))))))) r (h', (ls', (ss, (ns, (ts, (index, (flags, (outcome, (o', tt)))))))));
  deleted_link = λ κs h h' ls ls' ns index outcome r. deleted_link.Learnt κs (h, (ls, (ns, (index, (outcome, tt))))) r (h', (ls', (ns, (index, (outcome, tt)))));
  new-address = λ κs h h' ls ls' ss ns ts index a o o' r.
      new-address.Learnt κs (h, (ls, (ss, (ns, (ts, (index, (a, (o, tt)))))))) r (h', (ls', (ss, (ns, (ts, (index, (a, (o', tt))))))));
  deleted_address = λ κs h h' ls ls' ns index a r. deleted_address.Learnt κs (h, (ls, (ns, (index, (a, tt))))) r (h', (ls', (ns, (index, (a, tt)))));
  subscribe = λ κs h h' ls ss ss' ns k o o' r. subscribe.Learnt κs (h, (ls, (ss, (ns, (k, (o, tt)))))) r (h', (ls, (ss', (ns, (k, (o', tt))))));
  advertise = λ κs h h' ls ns ns' ts ts' n k l o o' r.
      advertise.Learnt κs (h, (ls, (ns, (ts, (n, (k, (l, (o, tt)))))))) r (h', (ls, (ns', (ts', (n, (k, (l, (o', tt))))))));
  deadvertise = λ κs h h' ls ns ns' ts ts' n o o' r. deadvertise.Learnt κs (h, (ls, (ns, (ts, (n, (o, tt)))))) r (h', (ls, (ns', (ts', (n, (o', tt))))));
  refresh = λ κs h ls ss ns ts o o' r. refresh.Learnt κs (h, (ls, (ss, (ns, (ts, (o, tt)))))) r (h, (ls, (ss, (ns, (ts, (o', tt))))));
  on-data = λ κs h ss ns ns' ts ts' time sender receiver d r.
      on-data.Learnt κs (h, (ss, (ns, (ts, (time, (sender, (receiver, (d, tt)))))))) r (h, (ss, (ns', (ts', (time, (sender, (receiver, (d, tt))))))));
  handle_timeout = λ κs h h' ls ss ns ns' ts time o o' r.
      handle_timeout.Learnt κs (h, (ls, (ss, (ns, (ts, (time, (o, tt))))))) r (h', (ls, (ss, (ns', (ts, (time, (o', tt)))))));
  reset = λ κs h h' ns time r. reset.Learnt κs (h, (ns, (time, tt))) r (h', (ns, (time, tt)));
}

pub learnt-same : learnt ≡ functions
learnt-same = refl
