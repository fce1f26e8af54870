-- How many records a call would write, as a formula, and the bytes that they take, which refusal 2 asks for: document 02, change 1. It names `refresh` and handle_timeout;
-- for the others the formula follows from what they send (document 01, 'Outbox' and 'Links and addresses'). That a call writes so many is a law (proofs/RecordCount).
use Rattle.std.specs.Prelude.{ℕ, ◌+◌, ◌*◌, Bool, cond, ◌&&◌, List, length}
use Rattle.engine.specs.Sizes.{record_size}
use Rattle.engine.specs.Held.{Text, Context}
use Rattle.engine.specs.Calls.{Call, NewLink, DeletedLink, NewAddress, DeletedAddress, Subscribe, Advertise, Deadvertise, Refresh, Datagram, Timeout, ResetTimer}
use Rattle.engine.specs.Links.{addresses_of, any_up, up_addresses, link_at, stores}
use Rattle.engine.specs.Records.{any_all, salvo_due, turns_up}

-- what is looked at of the names, so that the engine and the ledger share it: which are held, how many, and how many replies are due at or before a time,
-- to lone searchers and to the group
pub record Names : Type 0 where
  pub holds : Text → Bool
  pub count : ℕ
  pub alone : ℕ → ℕ
  pub group : ℕ → ℕ

-- addresses on up links
abbrev pub up_count : Context → ℕ
up_count x = length (up_addresses x.links)

-- searches count 1 where a subscription is `ssdp:all`
unfoldable pub searches_count : List Text → ℕ
searches_count ts = cond (any_all ts) 1 (length ts)

-- advertisements plus searches: what goes out from an address
abbrev pub entry_count : Context → Names → ℕ
entry_count x n = n.count + searches_count x.subscriptions

-- `refresh`: that sum, times addresses on up links
abbrev pub refresh_count : Context → Names → ℕ
refresh_count x n = entry_count x n * up_count x

unfoldable pub record_count : Context → Names → Call → ℕ
-- a held link that turns up: that sum from each of its addresses
record_count x n (NewLink index flags outcome room) =
    cond (turns_up index flags x.links) (entry_count x n * length (addresses_of (link_at index x.links))) 0
record_count x n (DeletedLink index outcome) = 0
-- an address that is stored on an up link: that sum from it alone
record_count x n (NewAddress index address room) =
    cond (stores index address x.links && any_up (link_at index x.links)) (entry_count x n) 0
record_count x n (DeletedAddress index address) = 0
-- a message from each address on an up link; a byebye for a held name alone
record_count x n (Subscribe service room) = up_count x
record_count x n (Advertise name service location room) = up_count x
record_count x n (Deadvertise name room) = cond (n.holds name) (up_count x) 0
record_count x n (Refresh room) = refresh_count x n
record_count x n (Datagram time sender receiver s) = 0
-- the refresh records, where the salvo is due, and the replies due, group ones once an address
record_count x n (Timeout time room) = cond (salvo_due x time) (refresh_count x n) 0 + n.alone time + n.group time * up_count x
record_count x n (ResetTimer time) = 0

-- the bytes of those records
unfoldable pub need : Context → Names → Call → ℕ
need x n c = record_size * record_count x n c
