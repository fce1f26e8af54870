-- The records that a call sends, in their order: document 01, 'Outbox' and 'Engine and ledger'.
use Rattle.std.specs.Prelude.{ℕ, Bool, false, cond, not, ◌&&◌, ◌||◌, List, [], ◌∷◌, ◌++◌, map, leb}
use Rattle.text.specs.Bytes.{equal}
use Rattle.engine.specs.Table.{known, entry_of}
use Rattle.engine.specs.Flags.{is_up, is_multicast}
use Rattle.engine.specs.Target.{ssdp_all}
use Rattle.engine.specs.Held.{Text, Link, Context, Advertisement, advertised, by_index}
use Rattle.engine.specs.Calls.{Call, NewLink, DeletedLink, NewAddress, DeletedAddress, Subscribe, Advertise, Deadvertise, Refresh, Datagram, Timeout, ResetTimer}
use Rattle.engine.specs.Links.{addresses_of, any_up, up_addresses, address_of, link_at, stores}
use Rattle.engine.specs.declared.advertisement.Endpoint.{Endpoint}
use Rattle.engine.specs.declared.advertisement.ResponseNeeded.{ResponseNeeded}
use Rattle.engine.specs.declared.advertisement.ResponseNeeded.TheVariants.{None, Multicast, Unicast}

-- a record by what it says; the first number is the source address, and all but a response go to the group
pub data Record : Type 0 where
  -- type
  SearchFrom : ℕ → Text → Record
  -- type, name, location
  NotifyFrom : ℕ → Text → Text → Text → Record
  -- type, name
  ByeByeFrom : ℕ → Text → Text → Record
  -- destination, type, name, location
  ResponseFrom : ℕ → Endpoint → Text → Text → Text → Record

unfoldable pub flat : {A B : Type 0} → (A → List B) → List A → List B
flat f [] = []
flat f (a ∷ l) = f a ++ flat f l

unfoldable pub any_all : List Text → Bool
any_all [] = false
any_all (t ∷ ts) = equal t ssdp_all || any_all ts

-- the searches of a refresh: one `ssdp:all` if any subscription is that
unfoldable pub searches_of : List Text → List Text
searches_of ts = cond (any_all ts) (ssdp_all ∷ []) ts

abbrev pub notify : Advertisement → ℕ → Record
notify a source = NotifyFrom source a.service a.name a.location

-- one message from each address
abbrev pub search_on : List ℕ → Text → List Record
search_on up service = map (λ source. SearchFrom source service) up

abbrev pub notify_on : List ℕ → Advertisement → List Record
notify_on up a = map (notify a) up

abbrev pub byebye_on : List ℕ → Advertisement → List Record
byebye_on up a = map (λ source. ByeByeFrom source a.service a.name) up

-- all advertisements, then the searches, from each of these addresses
abbrev pub refresh_on : List ℕ → List Text → List Advertisement → List Record
refresh_on up subscriptions as' = flat (notify_on up) as' ++ flat (search_on up) (searches_of subscriptions)

-- `refresh`
unfoldable pub refresh_records : Context → List Advertisement → List Record
refresh_records x as' = refresh_on (up_addresses x.links) x.subscriptions as'

-- to one address: the same searches, then the advertisements
abbrev pub all_from : List Text → List Advertisement → ℕ → List Record
all_from subscriptions as' source = map (SearchFrom source) (searches_of subscriptions) ++ map (λ a. notify a source) as'

unfoldable pub address_records : Context → List Advertisement → ℕ → List Record
address_records x as' source = all_from x.subscriptions as' source

-- the reply to a lone searcher, from the address that its search reached
abbrev pub response_to : Advertisement → Endpoint → ℕ → Record
response_to a to source = ResponseFrom source to a.answer a.name a.location

-- a reply that waits no more: to the lone searcher, or to the group from each address on an up link
abbrev pub reply_records : List ℕ → Advertisement → ResponseNeeded → List Record
reply_records up a None = []
reply_records up a (Multicast due) = notify_on up a
reply_records up a (Unicast due sender receiver) = response_to a sender receiver ∷ []

abbrev pub is_due : ℕ → ResponseNeeded → Bool
is_due time None = false
is_due time (Multicast due) = leb due time
is_due time (Unicast due sender receiver) = leb due time

unfoldable pub due_records : ℕ → List ℕ → Advertisement → List Record
due_records time up a = cond (is_due time a.needed) (reply_records up a a.needed) []

-- the records of a handle_timeout: the refresh records, if the salvo is due, then those of each wait that it ended
abbrev pub timeout_on : List ℕ → Bool → ℕ → List Text → List Advertisement → List Record
timeout_on up due time subscriptions as' = cond due (refresh_on up subscriptions as') [] ++ flat (due_records time up) as'

-- the salvo of a handle_timeout
abbrev pub salvo_due : Context → ℕ → Bool
salvo_due x time = leb x.timer.next_salvo time

-- a held link that was not up and now is
abbrev pub turns_up : ℕ → ℕ → List Link → Bool
turns_up index flags ls = is_multicast flags && known by_index index ls && not (any_up (link_at index ls)) && is_up flags

unfoldable pub records : Context → List Advertisement → Call → List Record
records x as' (NewLink index flags outcome room) =
    cond (turns_up index flags x.links) (flat (address_records x as') (addresses_of (link_at index x.links))) []
records x as' (DeletedLink index outcome) = []
records x as' (NewAddress index address room) =
    cond (stores index address x.links && any_up (link_at index x.links)) (address_records x as' (address_of address)) []
records x as' (DeletedAddress index address) = []
records x as' (Subscribe service room) = search_on (up_addresses x.links) service
records x as' (Advertise name service location room) = map (λ source. NotifyFrom source service name location) (up_addresses x.links)
records x as' (Deadvertise name room) =
    flat (byebye_on (up_addresses x.links)) (entry_of advertised name as')
records x as' (Refresh room) = refresh_records x as'
records x as' (Datagram time sender receiver s) = []
records x as' (Timeout time room) =
    cond (salvo_due x time) (refresh_records x as') [] ++ flat (due_records time (up_addresses x.links)) as'
records x as' (ResetTimer time) = []
