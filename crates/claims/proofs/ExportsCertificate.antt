-- The certificate of the functions that a host links.
use Rattle.host.proofs.Learnt.{learnt}
use Rattle.claims.proofs.Certificate.{Certificate}
use Rattle.claims.proofs.Lists.{exports-claim, exports-logged}
use Rattle.host.proofs.exported.kohlsilk_lent_new.Statement as new
use Rattle.host.proofs.exported.kohlsilk_lent_new.Met as new-met
use Rattle.host.proofs.exported.kohlsilk_lent_new_link.Statement as new-link
use Rattle.host.proofs.exported.kohlsilk_lent_new_link.Met as new-link-met
use Rattle.host.proofs.exported.kohlsilk_lent_deleted_link.Statement as deleted_link
use Rattle.host.proofs.exported.kohlsilk_lent_deleted_link.Met as deleted-link-met
use Rattle.host.proofs.exported.kohlsilk_lent_new_address.Statement as new-address
use Rattle.host.proofs.exported.kohlsilk_lent_new_address.Met as new-address-met
use Rattle.host.proofs.exported.kohlsilk_lent_deleted_address.Statement as deleted_address
use Rattle.host.proofs.exported.kohlsilk_lent_deleted_address.Met as deleted-address-met
use Rattle.host.proofs.exported.kohlsilk_lent_subscribe.Statement as subscribe
use Rattle.host.proofs.exported.kohlsilk_lent_subscribe.Met as subscribe-met
use Rattle.host.proofs.exported.kohlsilk_lent_advertise.Statement as advertise
use Rattle.host.proofs.exported.kohlsilk_lent_advertise.Met as advertise-met
use Rattle.host.proofs.exported.kohlsilk_lent_deadvertise.Statement as deadvertise
use Rattle.host.proofs.exported.kohlsilk_lent_deadvertise.Met as deadvertise-met
use Rattle.host.proofs.exported.kohlsilk_lent_refresh.Statement as refresh
use Rattle.host.proofs.exported.kohlsilk_lent_refresh.Met as refresh-met
use Rattle.host.proofs.exported.kohlsilk_lent_on_data.Statement as on-data
use Rattle.host.proofs.exported.kohlsilk_lent_on_data.Met as on-data-met
use Rattle.host.proofs.exported.kohlsilk_lent_handle_timeout.Statement as handle_timeout
use Rattle.host.proofs.exported.kohlsilk_lent_handle_timeout.Met as handle-timeout-met
use Rattle.host.proofs.exported.kohlsilk_lent_reset_refresh_timer.Statement as reset-refresh-timer
use Rattle.host.proofs.exported.kohlsilk_lent_reset_refresh_timer.Met as reset-refresh-timer-met

abbrev Meet : Type 1 → Type 2
Meet M =
    new.statement M
    × new-link.statement M
    × deleted_link.statement M
    × new-address.statement M
    × deleted_address.statement M
    × subscribe.statement M
    × advertise.statement M
    × deadvertise.statement M
    × refresh.statement M
    × on-data.statement M
    × handle_timeout.statement M
    × reset-refresh-timer.statement M

pub certificate : (M : Type 1) → Certificate (Meet M) learnt
certificate M = record {
  meet = (
    new-met.met,
    new-link-met.met,
    deleted-link-met.met,
    new-address-met.met,
    deleted-address-met.met,
    subscribe-met.met,
    advertise-met.met,
    deadvertise-met.met,
    refresh-met.met,
    on-data-met.met,
    handle-timeout-met.met,
    reset-refresh-timer-met.met,
  );
  claim = exports-claim;
  logs = exports-logged;
}
