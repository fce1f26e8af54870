-- What the five arrays hold that an owner lends to the calls, without padding and stale rows: contracts and claims go by it.
-- Total on every content: a length or a count above its table means the whole table, and a narrow number is read from the low bits of a wide one.
--   head      seed, salvo instant, phase, number of names, of links, of subscriptions
--   links     a row for each link: index, up (0: down), number of addresses, the addresses
--   searches  a row of bytes for each subscription: the length of its type, the type
--   numbers   a row for each name: lengths of name, type, location and answer type; reply (0 none, 1 to the group, else to a lone searcher), instant, sender, port, receiver
--   texts     a row of bytes for each name: name, type, location, answer type
use Rattle.std.specs.Prelude.{ℕ, min, ◌+◌, ◌*◌, ◌%◌, cond, not, List, map, eqb, take, drop, get_or}
use Rattle.message.specs.Build.{type_max, name_max}
use Rattle.engine.specs.Sizes.{advertisements_max, subscriptions_max, links_max, addresses_max, location_max}
use Rattle.engine.specs.Rows.{row, rows, lines}
use Rattle.engine.specs.Held.{Text, Link, Advertisement, Held, holding}
use Rattle.engine.specs.declared.refresh_timer.RefreshTimer.{RefreshTimer}
use Rattle.engine.specs.declared.advertisement.ResponseNeeded.{ResponseNeeded}
use Rattle.engine.specs.declared.advertisement.ResponseNeeded.TheVariants.{None, Multicast, Unicast}

-- the low bits of a number
abbrev pub low32 : ℕ → ℕ
low32 x = x % 4294967296

abbrev pub low16 : ℕ → ℕ
low16 x = x % 65536

abbrev pub low8 : ℕ → ℕ
low8 x = x % 256

-- ---- the head
abbrev pub head_places : ℕ
head_places = 6

abbrev pub seed_place : ℕ
seed_place = 0

abbrev pub salvo_place : ℕ
salvo_place = 1

abbrev pub phase_place : ℕ
phase_place = 2

abbrev pub names_place : ℕ
names_place = 3

abbrev pub links_place : ℕ
links_place = 4

abbrev pub searches_place : ℕ
searches_place = 5

unfoldable pub seed_in : List ℕ → ℕ
seed_in head = low32 (get_or head seed_place 0)

unfoldable pub timer_in : List ℕ → RefreshTimer
timer_in head = record { random_seed = seed_in head; next_salvo = get_or head salvo_place 0; phase = low8 (get_or head phase_place 0) }

-- ---- links
abbrev pub first_address : ℕ
first_address = 3

abbrev pub link_width : ℕ
link_width = first_address + addresses_max

abbrev pub link_numbers : ℕ
link_numbers = link_width * links_max

unfoldable pub link_in : List ℕ → Link
link_in r = record {
  index = low32 (get_or r 0 0);
  up = not (eqb (get_or r 1 0) 0);
  addresses = map low32 (take (get_or r 2 0) (take addresses_max (drop first_address r)));
}

abbrev pub link_rows : ℕ → List ℕ → List Link
link_rows n links = lines link_width link_in n links

abbrev pub link_at_row : ℕ → List ℕ → Link
link_at_row i links = link_in (row link_width i links)

abbrev pub link_count : List ℕ → ℕ
link_count head = min (get_or head links_place 0) links_max

unfoldable pub links_in : List ℕ → List ℕ → List Link
links_in head links = link_rows (link_count head) links

-- ---- subscriptions
abbrev pub search_width : ℕ
search_width = 1 + type_max

abbrev pub search_bytes : ℕ
search_bytes = search_width * subscriptions_max

unfoldable pub search_in : List ℕ → Text
search_in r = take (get_or r 0 0) (take type_max (drop 1 r))

abbrev pub search_rows : ℕ → List ℕ → List Text
search_rows n searches = lines search_width search_in n searches

abbrev pub search_at : ℕ → List ℕ → Text
search_at i searches = search_in (row search_width i searches)

abbrev pub search_count : List ℕ → ℕ
search_count head = min (get_or head searches_place 0) subscriptions_max

unfoldable pub searches_in : List ℕ → List ℕ → List Text
searches_in head searches = search_rows (search_count head) searches

-- ---- names
abbrev pub numbers_width : ℕ
numbers_width = 9

abbrev pub numbers_size : ℕ
numbers_size = numbers_width * advertisements_max

abbrev pub service_place : ℕ
service_place = name_max

abbrev pub location_place : ℕ
location_place = service_place + type_max

abbrev pub answer_place : ℕ
answer_place = location_place + location_max

abbrev pub texts_width : ℕ
texts_width = answer_place + type_max

abbrev pub texts_size : ℕ
texts_size = texts_width * advertisements_max

unfoldable pub reply_of : ℕ → ℕ → ℕ → ℕ → ℕ → ResponseNeeded
reply_of code due sender port receiver =
    cond (eqb code 0) None
    (cond (eqb code 1) (Multicast due) (Unicast due (record { address = low32 sender; port = low16 port }) (low32 receiver)))

unfoldable pub reply_in : List ℕ → ResponseNeeded
reply_in r = reply_of (get_or r 4 0) (get_or r 5 0) (get_or r 6 0) (get_or r 7 0) (get_or r 8 0)

-- a text of a row: the first `len` of the `size` bytes from a place on
abbrev pub text_in : ℕ → ℕ → ℕ → List ℕ → Text
text_in len place size q = take len (take size (drop place q))

unfoldable pub entry_in : List ℕ → List ℕ → Advertisement
entry_in r q = record {
  name = text_in (get_or r 0 0) 0 name_max q;
  service = text_in (get_or r 1 0) service_place type_max q;
  location = text_in (get_or r 2 0) location_place location_max q;
  needed = reply_in r;
  answer = text_in (get_or r 3 0) answer_place type_max q;
}

-- row i, and the first n rows
abbrev pub entry_at : ℕ → List ℕ → List ℕ → Advertisement
entry_at i numbers texts = entry_in (row numbers_width i numbers) (row texts_width i texts)

abbrev pub reply_at : ℕ → List ℕ → ResponseNeeded
reply_at i numbers = reply_in (row numbers_width i numbers)

abbrev pub entries : ℕ → List ℕ → List ℕ → List Advertisement
entries n numbers texts = rows numbers_width texts_width entry_in n numbers texts

abbrev pub name_count : List ℕ → ℕ
name_count head = min (get_or head names_place 0) advertisements_max

unfoldable pub names_in : List ℕ → List ℕ → List ℕ → List Advertisement
names_in head numbers texts = entries (name_count head) numbers texts

-- ---- all five
pub record Engine : Type 0 where
  pub head : List ℕ
  pub links : List ℕ
  pub searches : List ℕ
  pub numbers : List ℕ
  pub texts : List ℕ

abbrev pub engine : List ℕ → List ℕ → List ℕ → List ℕ → List ℕ → Engine
engine head links searches numbers texts = record { head = head; links = links; searches = searches; numbers = numbers; texts = texts }

unfoldable pub held : Engine → Held
held t =
    holding (seed_in t.head) (timer_in t.head) (links_in t.head t.links) (searches_in t.head t.searches)
    (names_in t.head t.numbers t.texts)
