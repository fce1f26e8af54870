-- Who can be turned away: the refusal of each call, in document 01's order. What it looks at of the names is handed in, so that the engine and the ledger share it.
use Rattle.std.specs.Prelude.{ℕ, Bool, cond, not, ◌&&◌, ◌||◌, List, [], ◌∷◌, ltb, leb, eqb, length, Result, Ok, Err}
use Rattle.std.proofs.Math.Option.{Option, none, some}
use Rattle.text.specs.Good.{good_text}
use Rattle.message.specs.Parse.{parsed, field_at}
use Rattle.message.specs.Build.{type_max, name_max}
use Rattle.message.specs.Refusals.{text_over_size, text_not_good}
use Rattle.message.specs.declared.Message.{Message}
use Rattle.engine.specs.Reading.{Subject, Asking, Notice, subject_of}
use Rattle.engine.specs.Sizes.{time_max, advertisements_max, subscriptions_max, links_max, addresses_max, location_max}
use Rattle.engine.specs.Table.{known}
use Rattle.engine.specs.Flags.{is_multicast}
use Rattle.engine.specs.Held.{Text, Link, Context, by_index}
use Rattle.engine.specs.Calls.{Call, NewLink, DeletedLink, NewAddress, DeletedAddress, Subscribe, Advertise, Deadvertise, Refresh, Datagram, Timeout, ResetTimer}
use Rattle.engine.specs.Links.{addresses_of, link_at, stores, is_v4, is_v6}
use Rattle.engine.specs.Need.{Names, need}
use Rattle.engine.specs.declared.refusals.Refusal.{Refusal}
use Rattle.engine.specs.declared.refusals.Refusal.TheVariants.{TimeLate, OutboxShort, TextOverSize, TextNotGood, TableFull, WaitZero, TargetOverSize, IndexZero, AddressLength, LinksFull, JoinFailed}

-- ---- document 01's numbers; 3, 4 and 6 to 8 are the message crate's
-- time above 2^63 − 1
abbrev pub time_late : ℕ
time_late = 1

-- outbox under the bytes of the records that the call would write (Need, `need`)
abbrev pub outbox_short : ℕ
outbox_short = 2

-- ninth name or fifth subscription
abbrev pub table_full : ℕ
table_full = 5

-- MX 0
abbrev pub wait_zero : ℕ
wait_zero = 9

-- search target over 80 bytes
abbrev pub target_over_size : ℕ
target_over_size = 10

-- index 0
abbrev pub index_zero : ℕ
index_zero = 11

-- address neither 4 nor 16 bytes
abbrev pub address_length : ℕ
address_length = 12

-- a new multicast link when three are held, or a third address that would be stored
abbrev pub links_full : ℕ
links_full = 13

-- join outcome not 0 for a new multicast link
abbrev pub join_failed : ℕ
join_failed = 14

-- the number of what a call is refused for, and of what a test answers: 0 where it refuses nothing
abbrev pub number_of : Refusal → ℕ
number_of TimeLate = time_late
number_of OutboxShort = outbox_short
number_of TextOverSize = text_over_size
number_of TextNotGood = text_not_good
number_of TableFull = table_full
number_of WaitZero = wait_zero
number_of TargetOverSize = target_over_size
number_of IndexZero = index_zero
number_of AddressLength = address_length
number_of LinksFull = links_full
number_of JoinFailed = join_failed

abbrev pub refused_as : Result (Unit {0}) Refusal → ℕ
refused_as (Ok _) = 0
refused_as (Err r) = number_of r

-- a test that refuses, and its number
pub record Check : Type 0 where
  pub fails : Bool
  pub number : ℕ

infixl 70 ◌refuses◌
abbrev pub ◌refuses◌ : Bool → ℕ → Check
fails refuses number = record { fails = fails; number = number }

-- the first that refuses decides
abbrev pub first_of : List Check → ℕ
first_of [] = 0
first_of (c ∷ cs) = cond c.fails c.number (first_of cs)

abbrev pub late : ℕ → Bool
late time = ltb time_max time

abbrev pub over : ℕ → Text → Bool
over max t = ltb max (length t)

abbrev pub bad : Text → Bool
bad t = not (good_text t)

-- the last check of a call that sends
abbrev pub short : ℕ → ℕ → List Check
short room bytes = ltb room bytes refuses outbox_short ∷ []

abbrev pub new_multicast : ℕ → ℕ → List Link → Bool
new_multicast index flags ls = is_multicast flags && not (known by_index index ls)

-- 9 and 10 are for searches
abbrev pub subject_checks : List ℕ → Subject → List Check
subject_checks s (Asking st mx) = eqb mx 0 refuses wait_zero ∷ over type_max (field_at s st) refuses target_over_size ∷ []
subject_checks s (Notice t) = []

abbrev pub search_checks : List ℕ → Option Message → List Check
search_checks s none = []
search_checks s (some m) = subject_checks s (subject_of m)

unfoldable pub checks : Context → Names → Call → List Check
checks x n (NewLink index flags outcome room) =
    eqb index 0 refuses index_zero
    ∷ (new_multicast index flags x.links && leb links_max (length x.links)) refuses links_full
    ∷ (new_multicast index flags x.links && not (eqb outcome 0)) refuses join_failed
    ∷ short room (need x n (NewLink index flags outcome room))
checks x n (DeletedLink index outcome) = eqb index 0 refuses index_zero ∷ []
checks x n (NewAddress index address room) =
    eqb index 0 refuses index_zero
    ∷ not (is_v4 address || is_v6 address) refuses address_length
    ∷ (stores index address x.links && leb addresses_max (length (addresses_of (link_at index x.links)))) refuses links_full
    ∷ short room (need x n (NewAddress index address room))
checks x n (DeletedAddress index address) = eqb index 0 refuses index_zero ∷ not (is_v4 address || is_v6 address) refuses address_length ∷ []
checks x n (Subscribe service room) =
    over type_max service refuses text_over_size
    ∷ bad service refuses text_not_good
    ∷ leb subscriptions_max (length x.subscriptions) refuses table_full
    ∷ short room (need x n (Subscribe service room))
checks x n (Advertise name service location room) =
    (over name_max name || over type_max service || over location_max location) refuses text_over_size
    ∷ (bad name || bad service || bad location) refuses text_not_good
    ∷ (not (n.holds name) && leb advertisements_max n.count) refuses table_full
    ∷ short room (need x n (Advertise name service location room))
checks x n (Deadvertise name room) = short room (need x n (Deadvertise name room))
checks x n (Refresh room) = short room (need x n (Refresh room))
checks x n (Datagram time sender receiver s) =
    late time refuses time_late ∷ not (eqb (parsed s).refusal 0) refuses (parsed s).refusal ∷ search_checks s (parsed s).message
checks x n (Timeout time room) = late time refuses time_late ∷ short room (need x n (Timeout time room))
checks x n (ResetTimer time) = late time refuses time_late ∷ []

unfoldable pub refusal : Context → Names → Call → ℕ
refusal x n c = first_of (checks x n c)

-- `new` refuses a late time alone
unfoldable pub new_refusal : ℕ → ℕ
new_refusal time = first_of (late time refuses time_late ∷ [])
