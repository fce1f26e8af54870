-- The certificate of the engine's functions.
use Rattle.engine.proofs.Learnt.{learnt}
use Rattle.claims.proofs.Certificate.{Certificate}
use Rattle.claims.proofs.Lists.{functions-claim, functions-logged}
use Rattle.engine.proofs.calls.new.Statement as new
use Rattle.engine.proofs.calls.new.Met as new-met
use Rattle.engine.proofs.calls.new_link.Statement as new-link
use Rattle.engine.proofs.calls.new_link.Met as new-link-met
use Rattle.engine.proofs.calls.deleted_link.Statement as deleted_link
use Rattle.engine.proofs.calls.deleted_link.Met as deleted-link-met
use Rattle.engine.proofs.calls.new_address.Statement as new-address
use Rattle.engine.proofs.calls.new_address.Met as new-address-met
use Rattle.engine.proofs.calls.deleted_address.Statement as deleted_address
use Rattle.engine.proofs.calls.deleted_address.Met as deleted-address-met
use Rattle.engine.proofs.calls.subscribe.Statement as subscribe
use Rattle.engine.proofs.calls.subscribe.Met as subscribe-met
use Rattle.engine.proofs.calls.advertise.Statement as advertise
use Rattle.engine.proofs.calls.advertise.Met as advertise-met
use Rattle.engine.proofs.calls.deadvertise.Statement as deadvertise
use Rattle.engine.proofs.calls.deadvertise.Met as deadvertise-met
use Rattle.engine.proofs.calls.refresh.Statement as refresh
use Rattle.engine.proofs.calls.refresh.Met as refresh-met
use Rattle.engine.proofs.calls.on_data.Statement as on-data
use Rattle.engine.proofs.calls.on_data.Met as on-data-met
use Rattle.engine.proofs.calls.handle_timeout.Statement as handle_timeout
use Rattle.engine.proofs.calls.handle_timeout.Met as handle-timeout-met
use Rattle.engine.proofs.calls.reset_refresh_timer.Statement as reset-refresh-timer
use Rattle.engine.proofs.calls.reset_refresh_timer.Met as reset-refresh-timer-met

abbrev Meet : Type 1 → Type 2
Meet M =
    new.statement M
    × new-link.statement M
    × deleted_link.statement M
    × new-address.statement M
    × deleted_address.statement M
    × subscribe.statement M
    × advertise.statement M
    × deadvertise.statement M
    × refresh.statement M
    × on-data.statement M
    × handle_timeout.statement M
    × reset-refresh-timer.statement M

pub certificate : (M : Type 1) → Certificate (Meet M) learnt
certificate M = record {
  meet = (
    new-met.met,
    new-link-met.met,
    deleted-link-met.met,
    new-address-met.met,
    deleted-address-met.met,
    subscribe-met.met,
    advertise-met.met,
    deadvertise-met.met,
    refresh-met.met,
    on-data-met.met,
    handle-timeout-met.met,
    reset-refresh-timer-met.met,
  );
  claim = functions-claim;
  logs = functions-logged;
}
