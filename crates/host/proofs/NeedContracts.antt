-- The functions that tell a host what a call needs, by their own contracts: what each gives whoever calls it (`Learnt`, which Rattle makes of the source) is the formula that
-- refusal 2 goes by (engine/specs/Need), so that an export that promised less would be refused here.
use mathlib.Core.Path.{◌≡◌}
use mathlib.Core.List.{List}
use Prim.Native.Nat.{ℕ}
use contract.Lifetimes.{Lfts}
use Rattle.engine.specs.Held.{Text}
use Rattle.engine.specs.Calls.{NewLink, NewAddress, Subscribe, Advertise, Deadvertise, Refresh, Timeout}
use Rattle.engine.specs.Engine.{need_of}
use Rattle.engine.specs.Arrays.{engine, held}
use Rattle.engine.proofs.Contracts.{Loan}
use Rattle.host.proofs.needs.kohlsilk_lent_announcement_need.Reads as announcement
use Rattle.host.proofs.needs.kohlsilk_lent_deadvertise_need.Reads as deadvertise
use Rattle.host.proofs.needs.kohlsilk_lent_refresh_need.Reads as refresh
use Rattle.host.proofs.needs.kohlsilk_lent_handle_timeout_need.Reads as handle_timeout
use Rattle.host.proofs.needs.kohlsilk_lent_new_link_need.Reads as new-link
use Rattle.host.proofs.needs.kohlsilk_lent_new_address_need.Reads as new-address

module _ (h ls : Loan) (r : ℕ) where
  pub subscribe-need : (κs : Lfts 2) → announcement.Learnt κs (h, (ls, tt)) r (h, (ls, tt)) →
      (searches numbers texts : List ℕ) (service : Text) (room : ℕ) → r ≡ need_of (held (engine h.now ls.now searches numbers texts)) (Subscribe service room)
  subscribe-need κs e searches numbers texts service room = (e searches numbers texts service service service room).0

  pub advertise-need : (κs : Lfts 2) → announcement.Learnt κs (h, (ls, tt)) r (h, (ls, tt)) → (searches numbers texts : List ℕ) (name service location : Text) (room : ℕ) →
      r ≡ need_of (held (engine h.now ls.now searches numbers texts)) (Advertise name service location room)
  advertise-need κs e searches numbers texts name service location room = (e searches numbers texts name service location room).1

  pub deadvertise-need : (κs : Lfts 5) (ns ts n : Loan) → deadvertise.Learnt κs (h, (ls, (ns, (ts, (n, tt))))) r (h, (ls, (ns, (ts, (n, tt))))) →
      (searches : List ℕ) (room : ℕ) → r ≡ need_of (held (engine h.now ls.now searches ns.now ts.now)) (Deadvertise n.now room)
  deadvertise-need κs ns ts n e = e

  pub refresh-need : (κs : Lfts 3) (ss : Loan) → refresh.Learnt κs (h, (ls, (ss, tt))) r (h, (ls, (ss, tt))) →
      (numbers texts : List ℕ) (room : ℕ) → r ≡ need_of (held (engine h.now ls.now ss.now numbers texts)) (Refresh room)
  refresh-need κs ss e = e

  pub handle_timeout_need : (κs : Lfts 4) (ss ns : Loan) (time : ℕ) →
      handle_timeout.Learnt κs (h, (ls, (ss, (ns, (time, tt))))) r (h, (ls, (ss, (ns, (time, tt))))) →
      (texts : List ℕ) (room : ℕ) → r ≡ need_of (held (engine h.now ls.now ss.now ns.now texts)) (Timeout time room)
  handle_timeout_need κs ss ns time e = e

  pub new-link_need : (κs : Lfts 3) (ss : Loan) (index flags : ℕ) →
      new-link.Learnt κs (h, (ls, (ss, (index, (flags, tt))))) r (h, (ls, (ss, (index, (flags, tt))))) →
      (numbers texts : List ℕ) (outcome room : ℕ) → r ≡ need_of (held (engine h.now ls.now ss.now numbers texts)) (NewLink index flags outcome room)
  new-link_need κs ss index flags e = e

  pub new-address-need : (κs : Lfts 4) (ss : Loan) (index : ℕ) (a : Loan) →
      new-address.Learnt κs (h, (ls, (ss, (index, (a, tt))))) r (h, (ls, (ss, (index, (a, tt))))) →
      (numbers texts : List ℕ) (room : ℕ) → r ≡ need_of (held (engine h.now ls.now ss.now numbers texts)) (NewAddress index a.now room)
  new-address-need κs ss index a e = e
