-- Sizes and widths of document 01, each named once: 'Table sizes', 'Outbox', 'Who can be turned away'.
use Rattle.std.specs.Prelude.{ℕ, ◌+◌, ◌*◌}

-- the latest time that a call may bear, in milliseconds: 2^63 − 1
abbrev pub time_max : ℕ
time_max = 9223372036854775807

abbrev pub advertisements_max : ℕ
advertisements_max = 8

abbrev pub subscriptions_max : ℕ
subscriptions_max = 4

abbrev pub links_max : ℕ
links_max = 3

abbrev pub addresses_max : ℕ
addresses_max = 2

-- the most addresses that messages go out from
abbrev pub sources_max : ℕ
sources_max = links_max * addresses_max

-- the longest location that may be advertised; a rewritten one may be longer (message crate, `build_location_max`)
abbrev pub location_max : ℕ
location_max = 120

-- the most records that a call writes (120: a salvo, and a reply to the group for every name), the bytes of one, those of its head, and the bytes that a host lends for them
abbrev pub records_max : ℕ
records_max = (advertisements_max + subscriptions_max + advertisements_max) * sources_max

abbrev pub record_size : ℕ
record_size = 524

abbrev pub head_size : ℕ
head_size = 12

abbrev pub outbox_size : ℕ
outbox_size = record_size * records_max

-- the group: 239.255.255.250, port 1900
abbrev pub group_address : ℕ
group_address = 4026531834

abbrev pub group_port : ℕ
group_port = 1900
