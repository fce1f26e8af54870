-- Links and addresses after the kernel's news, and the subscriptions and timer after the calls that change them: document 01, 'Links and addresses'.
use Rattle.std.specs.Prelude.{ℕ, ◌+◌, ◌*◌, ◌-◌, Bool, false, cond, not, ◌&&◌, ◌||◌, List, [], ◌∷◌, ◌++◌, eqb, length, take, get_or}
use Rattle.engine.specs.Table.{known, entry_of, enter, leave}
use Rattle.engine.specs.Flags.{is_up, is_multicast}
use Rattle.engine.specs.RefreshTimer.{timer_step, timer_reset}
use Rattle.engine.specs.Held.{Link, Context, by_index}
use Rattle.engine.specs.Calls.{Call, NewLink, DeletedLink, NewAddress, DeletedAddress, Subscribe, Advertise, Deadvertise, Refresh, Datagram, Timeout, ResetTimer}

-- the addresses of the links in a list, and whether one of them is up
unfoldable pub addresses_of : List Link → List ℕ
addresses_of [] = []
addresses_of (l ∷ ls) = l.addresses ++ addresses_of ls

unfoldable pub any_up : List Link → Bool
any_up [] = false
any_up (l ∷ ls) = l.up || any_up ls

-- the addresses on up links, by index and as stored
unfoldable pub up_addresses : List Link → List ℕ
up_addresses [] = []
up_addresses (l ∷ ls) = cond l.up l.addresses [] ++ up_addresses ls

unfoldable pub contains : ℕ → List ℕ → Bool
contains x [] = false
contains x (a ∷ l) = eqb a x || contains x l

-- a list without an address: the last one takes its place
unfoldable pub last_into : ℕ → List ℕ → List ℕ
last_into x [] = []
last_into x (a ∷ l) = cond (eqb a x) (take (length l) (get_or l (length l - 1) 0 ∷ l)) (a ∷ last_into x l)

-- four bytes are an IPv4 address, sixteen an IPv6 one
abbrev pub is_v4 : List ℕ → Bool
is_v4 b = eqb (length b) 4

abbrev pub is_v6 : List ℕ → Bool
is_v6 b = eqb (length b) 16

-- the number of four bytes, the highest first
abbrev pub address_of : List ℕ → ℕ
address_of b = ((get_or b 0 0 * 256 + get_or b 1 0) * 256 + get_or b 2 0) * 256 + get_or b 3 0

-- a link held at this index
abbrev pub link_at : ℕ → List Link → List Link
link_at index ls = entry_of by_index index ls

-- a repeated, IPv6 or unknown-link address is not stored
abbrev pub stores : ℕ → List ℕ → List Link → Bool
stores index b ls = is_v4 b && known by_index index ls && not (contains (address_of b) (addresses_of (link_at index ls)))

-- the state of a link that is held, or a new one
abbrev pub link_with : ℕ → Bool → List ℕ → Link
link_with index up addresses = record { index = index; up = up; addresses = addresses }

unfoldable pub link_news : ℕ → ℕ → List Link → List Link
link_news index flags ls = cond (is_multicast flags) (enter by_index (link_with index (is_up flags) (addresses_of (link_at index ls))) ls) ls

unfoldable pub address_news : ℕ → List ℕ → List Link → List Link
address_news index b ls =
    cond (stores index b ls)
    (enter by_index (link_with index (any_up (link_at index ls)) (addresses_of (link_at index ls) ++ (address_of b ∷ []))) ls) ls

unfoldable pub address_gone : ℕ → List ℕ → List Link → List Link
address_gone index b ls =
    cond (is_v4 b && known by_index index ls)
    (enter by_index (link_with index (any_up (link_at index ls)) (last_into (address_of b) (addresses_of (link_at index ls)))) ls) ls

-- an accepted call
abbrev pub with_links : Context → List Link → Context
with_links x ls = record { seed = x.seed; timer = x.timer; links = ls; subscriptions = x.subscriptions }

unfoldable pub context_after : Context → Call → Context
context_after x (NewLink index flags outcome room) = with_links x (link_news index flags x.links)
context_after x (DeletedLink index outcome) = with_links x (leave by_index index x.links)
context_after x (NewAddress index address room) = with_links x (address_news index address x.links)
context_after x (DeletedAddress index address) = with_links x (address_gone index address x.links)
context_after x (Subscribe service room) =
    record { seed = x.seed; timer = x.timer; links = x.links; subscriptions = x.subscriptions ++ (service ∷ []) }
context_after x (Advertise name service location room) = x
context_after x (Deadvertise name room) = x
context_after x (Refresh room) = x
context_after x (Datagram time sender receiver s) = x
context_after x (Timeout time room) =
    record { seed = x.seed; timer = timer_step x.timer time; links = x.links; subscriptions = x.subscriptions }
context_after x (ResetTimer time) =
    record { seed = x.seed; timer = timer_reset x.timer time; links = x.links; subscriptions = x.subscriptions }
