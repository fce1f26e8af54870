-- The message of every record that a call sends is the built text: the build functions refuse none of the texts that a reachable engine holds or an accepted call brings.
use mathlib.Core.Path.{◌≡◌, refl, subst}
use mathlib.Core.Bool.{Bool, true, false, cond, ◌&&◌, ◌||◌, false≢true}
use mathlib.Core.List.{List, [], ◌∷◌, map}
use Prim.Native.Nat.{ℕ, zero, suc}
use native.Mathlib.Omega.{arith}
use Rattle.text.specs.Bytes.{equal}
use Rattle.text.proofs.Comparing.{equal_is}
use Rattle.message.specs.Build.{type_max, name_max, build_location_max}
use Rattle.message.specs.Refusals.{text_over_size, text_not_good}
use Rattle.message.proofs.Sending.{AllFit, none, and, sent-message}
use Rattle.engine.specs.Sizes.{location_max}
use Rattle.engine.specs.Target.{ssdp_all}
use Rattle.engine.specs.Location.{rewritten}
use Rattle.engine.specs.Held.{Text, Context, Advertisement, Held, advertised}
use Rattle.engine.specs.Calls.{Call, NewLink, DeletedLink, NewAddress, DeletedAddress, Subscribe, Advertise, Deadvertise, Refresh, Datagram, Timeout, ResetTimer}
use Rattle.engine.specs.Links.{addresses_of, any_up, up_addresses, address_of, link_at, stores}
use Rattle.engine.specs.Records.{Record, SearchFrom, NotifyFrom, ByeByeFrom, ResponseFrom, flat, any_all, searches_of, notify, search_on, notify_on, refresh_records, address_records, reply_records, is_due, due_records, salvo_due, turns_up, records}
use Rattle.engine.specs.Layout.{texts_of, text_of, message_of}
use Rattle.engine.specs.Refusals.{checks}
use Rattle.engine.specs.Engine.{names_of, refusal_of, Step, accepted, unless, step}
use Rattle.engine.specs.declared.advertisement.Endpoint.{Endpoint}
use Rattle.engine.specs.declared.advertisement.ResponseNeeded.{ResponseNeeded}
use Rattle.engine.specs.declared.advertisement.ResponseNeeded.TheVariants.{None, Multicast, Unicast}
use Rattle.claims.proofs.LeafLaws.{Laws}
use Rattle.engine.proofs.Members.{Each, nobody, both, each-cond, each_append, each_map, each-flat, each-entry}
use Rattle.engine.proofs.Accepted.{Cleared, cleared, Fits, fits-passed, three-fit}
use Rattle.claims.proofs.Reachable.{AnswerFits, TextsFit, Listed, Subscribed, Reachable}

abbrev pub Built : Record → Type 0
Built m = message_of m ≡ text_of m

-- ---- texts that fit
any_fits : (ts : List Text) → Each (Fits type_max) ts → any_all ts ≡ true → Fits type_max ssdp_all
unfolding any_all
any_fits [] h e = absurd (false≢true e)
any_fits (t ∷ ts) (both f h) e = go (equal t ssdp_all) refl (any_fits ts h) e
  where
    go : (b : Bool) → equal t ssdp_all ≡ b → (any_all ts ≡ true → Fits type_max ssdp_all) → (b || any_all ts) ≡ true → Fits type_max ssdp_all
    go true s k e = subst (λ (x : Text). Fits type_max x) (equal_is t ssdp_all s) f
    go false s k e = k e

searches-fit : (ts : List Text) → Each (Fits type_max) ts → Each (Fits type_max) (searches_of ts)
unfolding searches_of
searches-fit ts h = go (any_all ts) refl
  where
    go : (b : Bool) → any_all ts ≡ b → Each (Fits type_max) (cond b (ssdp_all ∷ []) ts)
    go true e = both (any_fits ts h e) nobody
    go false e = h

-- ---- one record
built : (m : Record) → AllFit (texts_of m) → Built m
unfolding message_of
built m f = sent-message (text_of m) f

search-built : (source : ℕ) (service : Text) → Fits type_max service → Built (SearchFrom source service)
search-built source service k = built (SearchFrom source service) (and k none)

byebye-built : (source : ℕ) (service name : Text) → Fits type_max service → Fits name_max name → Built (ByeByeFrom source service name)
byebye-built source service name k n = built (ByeByeFrom source service name) (and k (and n none))

-- a message from each of some addresses
from_each : (f : ℕ → Record) → ((source : ℕ) → Built (f source)) → (up : List ℕ) → Each Built (map f up)
from_each f h [] = nobody
from_each f h (u ∷ up) = both (h u) (from_each f h up)

module _ (laws : Laws) where
  location-fits : (location : Text) (source : ℕ) → Fits location_max location → Fits build_location_max (rewritten location source)
  location-fits location source l = record {
    size = omega (arith, laws.rewritten-length location source, l.size);
    good = laws.rewritten-good location source l.good;
  }

  notify-built : (source : ℕ) (service name location : Text) → Fits type_max service → Fits name_max name → Fits location_max location →
      Built (NotifyFrom source service name location)
  notify-built source service name location k n l = built (NotifyFrom source service name location) (and k (and n (and (location-fits location source l) none)))

  response-built : (source : ℕ) (to : Endpoint) (service name location : Text) → Fits type_max service → Fits name_max name → Fits location_max location →
      Built (ResponseFrom source to service name location)
  response-built source to service name location k n l = built (ResponseFrom source to service name location) (and k (and n (and (location-fits location source l) none)))

  advertised-built : (a : Advertisement) → TextsFit a → (source : ℕ) → Built (notify a source)
  advertised-built a f source = notify-built source a.service a.name a.location f.service f.name f.location

  reply-built : (up : List ℕ) (a : Advertisement) → TextsFit a → (d : ResponseNeeded) → AnswerFits d a.answer → Each Built (reply_records up a d)
  reply-built up a f None h = nobody
  reply-built up a f (Multicast due) h = from_each (notify a) (advertised-built a f) up
  reply-built up a f (Unicast due sender receiver) h = both (response-built receiver sender a.answer a.name a.location h f.name f.location) nobody

  due-built : (now : ℕ) (up : List ℕ) (a : Advertisement) → TextsFit a → Each Built (due_records now up a)
  unfolding due_records
  due-built now up a f = each-cond (is_due now a.needed) (reply-built up a f a.needed f.answer) nobody

  -- ---- a call
  module _ (x : Context) (as' : List Advertisement) (listed : Listed as') (subscribed : Subscribed x.subscriptions) where
    refresh-built : Each Built (refresh_records x as')
    unfolding refresh_records
    refresh-built =
        let up = up_addresses x.links in
        each_append (each-flat (notify_on up) (λ a f. from_each (notify a) (advertised-built a f) up) listed.fit)
        (each-flat (search_on up) (λ t k. from_each (λ source. SearchFrom source t) (λ source. search-built source t k) up)
        (searches-fit x.subscriptions subscribed.fit))

    address-built : (source : ℕ) → Each Built (address_records x as' source)
    unfolding address_records
    address-built source =
        each_append (each_map (SearchFrom source) (search-built source) (searches-fit x.subscriptions subscribed.fit))
        (each_map (λ a. notify a source) (λ a f. advertised-built a f source) listed.fit)

    addresses-built : (l : List ℕ) → Each Built (flat (address_records x as') l)
    unfolding flat
    addresses-built [] = nobody
    addresses-built (a ∷ l) = each_append (address-built a) (addresses-built l)

  records-built : (h : Held) (c : Call) → Cleared (checks h.context (names_of h.advertisements) c) → Reachable h → Each Built (records h.context h.advertisements c)
  unfolding checks records
  records-built h (NewLink index flags outcome room) p r =
      each-cond (turns_up index flags h.context.links)
      (addresses-built h.context h.advertisements r.listed r.subscribed (addresses_of (link_at index h.context.links))) nobody
  records-built h (DeletedLink index outcome) p r = nobody
  records-built h (NewAddress index address room) p r =
      each-cond (stores index address h.context.links && any_up (link_at index h.context.links))
      (address-built h.context h.advertisements r.listed r.subscribed (address_of address)) nobody
  records-built h (DeletedAddress index address) p r = nobody
  records-built h (Subscribe service room) p r =
      from_each (λ source. SearchFrom source service) (λ source. search-built source service (fits-passed type_max service (p text_over_size) (p text_not_good))) (up_addresses h.context.links)
  records-built h (Advertise name service location room) p r =
      let t = three-fit name_max type_max location_max name service location (p text_over_size) (p text_not_good) in
      from_each (λ source. NotifyFrom source service name location) (λ source. notify-built source service name location t.1 t.0 t.2) (up_addresses h.context.links)
  records-built h (Deadvertise name room) p r =
      each-flat (λ a. map (λ source. ByeByeFrom source a.service a.name) (up_addresses h.context.links))
      (λ a f. from_each (λ source. ByeByeFrom source a.service a.name) (λ source. byebye-built source a.service a.name f.service f.name) (up_addresses h.context.links))
      (each-entry advertised name r.listed.fit)
  records-built h (Refresh room) p r = refresh-built h.context h.advertisements r.listed r.subscribed
  records-built h (Datagram now sender receiver s) p r = nobody
  records-built h (Timeout now room) p r =
      each_append (each-cond (salvo_due h.context now) (refresh-built h.context h.advertisements r.listed r.subscribed) nobody)
      (each-flat (due_records now (up_addresses h.context.links)) (due-built now (up_addresses h.context.links)) r.listed.fit)
  records-built h (ResetTimer now) p r = nobody

unless-built : (k : ℕ) (h : Held) (s : Step) → (k ≡ 0 → Each Built s.sent) → Each Built (unless k h s).sent
unless-built zero h s f = f refl
unless-built (suc k) h s f = nobody

pub step-built : Laws → (h : Held) (c : Call) → Reachable h → Each Built (step h c).sent
unfolding step accepted refusal_of
step-built laws h c r =
    unless-built (refusal_of h c) h (accepted h c) (λ e. records-built laws h c (cleared h.context (names_of h.advertisements) c e) r)
