-- The round trip (specs/RoundTrip.antt): a message's headers are given back (Written), so its kind and its fields are.
use mathlib.Core.Path.{◌≡◌, refl, sym, ◌∙◌, ap}
use mathlib.Core.Bool.{true}
use mathlib.Core.List.{List, ◌∷◌}
use mathlib.Core.Option.{some}
use Prim.Native.Nat.{ℕ}
use native.Mathlib.Omega.{arith}
use lib.ListN.{length}
use Rattle.text.specs.Bytes.{bytes, agree, upper, index_of, first_place}
use Rattle.text.specs.Range.{every}
use Rattle.text.specs.Good.{good_text}
use Rattle.text.specs.Number.{number, unsigned, more, value, max8}
use Rattle.text.specs.Utf8.{utf8, rest, lead_of}
use Rattle.text.specs.White.{leading, trailing, run, white_space, begins}
use Rattle.text.specs.declared.white.Place.{Place}
use Rattle.message.specs.Build.{HeaderField, field, message, search_headers, response_headers, notify_headers, byebye_headers, search_text, response_text, notify_text, byebye_text, search_line, response_line, notify_line, host_text, max_age_text, server_text, boot_headers}
use Rattle.message.specs.Headers.{header}
use Rattle.message.specs.Parse.{ParseAnswer, reads, field_at, parsed}
use Rattle.message.specs.RoundTrip as trip
use Rattle.message.specs.RoundTrip.{Content, content_of, read, RoundTrip}
use Rattle.message.specs.Headers.{Header}
use Rattle.std.specs.Prelude.{None, Some}
use Rattle.message.specs.declared.Message.TheVariants.{NotifyAlive, NotifyByeBye, Response}
use Rattle.message.proofs.Reading.{given2, given3, is-alive, is-byebye, is-search, by_line, with_start}
use Rattle.message.proofs.Written.{Sound, AllSound, no_more, one_more, seen, value_in, message-some, message-encoded, message-start, message-header}

-- a header that is there, and what stands at its place
record There (s : List ℕ) (h : Header) (t : List ℕ) : Type 0 where
  place : Place
  is : h ≡ Some place
  text : field_at s place ≡ t

there : (s : List ℕ) (h : Header) {t : List ℕ} → seen s h ≡ some t → There s h t
there s (Some p) e = record { place = p; is = refl; text = cc }
there s None e = absurd (let z : ◌≡◌ {A = ℕ} 0 1 = cc in omega arith)

module _ (first : List ℕ) (start : good_text first ≡ true) {hs : List HeaderField} (f : AllSound hs) where
  holds : (key : List ℕ) {t : List ℕ} → value_in key hs ≡ some t → There (message first hs) (header (message first hs) key) t
  holds key e = there (message first hs) (header (message first hs) key) (message-header first start f key ∙ e)

  by_first : by_line (message first hs) first ≡ parsed (message first hs)
  by_first =
      with_start (message first hs) (message-some first start f) (sym (message-encoded first start f)) refl (sym (message-start first start f))

-- texts that may be keys: good ones without a colon
record Key (k : List ℕ) : Type 0 where
  good : good_text k ≡ true
  no_colon : index_of 58 k ≡ length k

under : {k v : List ℕ} → Key k → good_text v ≡ true → Sound (record { key = k; value = v })
under k v = record { key = k.good; no_colon = k.no_colon; value = v }

-- the texts that do not vary are good, by computation
record Fixed : Type 0 where
  host : Key (bytes "HOST")
  man : Key (bytes "MAN")
  mx : Key (bytes "MX")
  st : Key (bytes "ST")
  nt : Key (bytes "NT")
  nts : Key (bytes "NTS")
  usn : Key (bytes "USN")
  location : Key (bytes "LOCATION")
  cache_control : Key (bytes "CACHE-CONTROL")
  server : Key (bytes "SERVER")
  group : good_text host_text ≡ true
  discover : good_text (bytes "\"ssdp:discover\"") ≡ true
  five : good_text (bytes "5") ≡ true
  seconds : number max8 (bytes "5") ≡ Some 5
  alive : good_text (bytes "ssdp:alive") ≡ true
  byebye : good_text (bytes "ssdp:byebye") ≡ true
  max_age : good_text max_age_text ≡ true
  product : good_text server_text ≡ true
  notify : good_text notify_line ≡ true
  ok : good_text response_line ≡ true
  search : good_text search_line ≡ true

fixed : Fixed
unfolding host_text max_age_text server_text notify_line response_line search_line bytes good_text utf8 rest lead_of every leading trailing run white_space begins index_of first_place number unsigned more value
fixed = record {
  host = record { good = refl; no_colon = refl };
  man = record { good = refl; no_colon = refl };
  mx = record { good = refl; no_colon = refl };
  st = record { good = refl; no_colon = refl };
  nt = record { good = refl; no_colon = refl };
  nts = record { good = refl; no_colon = refl };
  usn = record { good = refl; no_colon = refl };
  location = record { good = refl; no_colon = refl };
  cache_control = record { good = refl; no_colon = refl };
  server = record { good = refl; no_colon = refl };
  group = refl;
  discover = refl;
  five = refl;
  seconds = refl;
  alive = refl;
  byebye = refl;
  max_age = refl;
  product = refl;
  notify = refl;
  ok = refl;
  search = refl;
}

server-sound : AllSound (field "SERVER" server_text ∷ boot_headers)
unfolding boot_headers
server-sound = one_more (under fixed.server fixed.product) no_more

search-sound : (st : List ℕ) → good_text st ≡ true → AllSound (search_headers st)
unfolding search_headers
search-sound st p =
    one_more (under fixed.host fixed.group)
    (one_more (under fixed.man fixed.discover) (one_more (under fixed.mx fixed.five) (one_more (under fixed.st p) no_more)))

response-sound : (st usn loc : List ℕ) → good_text st ≡ true → good_text usn ≡ true → good_text loc ≡ true → AllSound (response_headers st usn loc)
unfolding response_headers
response-sound st usn loc p q r =
    one_more (under fixed.cache_control fixed.max_age)
    (one_more (under fixed.st p) (one_more (under fixed.usn q) (one_more (under fixed.location r) server-sound)))

notify-sound : (nt usn loc : List ℕ) → good_text nt ≡ true → good_text usn ≡ true → good_text loc ≡ true → AllSound (notify_headers nt usn loc)
unfolding notify_headers
notify-sound nt usn loc p q r =
    one_more (under fixed.host fixed.group)
    (one_more (under fixed.cache_control fixed.max_age)
    (one_more (under fixed.location r)
    (one_more (under fixed.nt p) (one_more (under fixed.nts fixed.alive) (one_more (under fixed.usn q) server-sound)))))

byebye-sound : (nt usn : List ℕ) → good_text nt ≡ true → good_text usn ≡ true → AllSound (byebye_headers nt usn)
unfolding byebye_headers
byebye-sound nt usn p q =
    one_more (under fixed.host fixed.group)
    (one_more (under fixed.cache_control fixed.max_age)
    (one_more (under fixed.nt p) (one_more (under fixed.nts fixed.byebye) (one_more (under fixed.usn q) server-sound))))

-- three texts, each under its own name
three : (f : List ℕ → List ℕ → List ℕ → Content) {a b c x y z : List ℕ} → a ≡ x → b ≡ y → c ≡ z → f a b c ≡ f x y z
three f p q r = cc

two : (f : List ℕ → List ℕ → Content) {a b x y : List ℕ} → a ≡ x → b ≡ y → f a b ≡ f x y
two f p q = cc

-- the four kinds
notify-back : (nt usn loc : List ℕ) → good_text nt ≡ true → good_text usn ≡ true → good_text loc ≡ true → read (notify_text nt usn loc) ≡ trip.alive nt usn loc
unfolding notify_text notify_headers notify_line boot_headers bytes agree upper
notify-back nt usn loc p q r =
    let s : List ℕ = notify_text nt usn loc in
    let f : AllSound (notify_headers nt usn loc) = notify-sound nt usn loc p q r in
    let nts = holds notify_line fixed.notify f (bytes "NTS") refl in
    let type = holds notify_line fixed.notify f (bytes "NT") refl in
    let name = holds notify_line fixed.notify f (bytes "USN") refl in
    let location = holds notify_line fixed.notify f (bytes "LOCATION") refl in
    ap (λ (a : ParseAnswer). content_of s a.message)
    (sym (by_first notify_line fixed.notify f)
    ∙ sym (is-alive s (header s (bytes "NT")) (header s (bytes "USN")) (header s (bytes "LOCATION")) nts.is (sym nts.text) refl refl (given3 (λ t u l. reads (NotifyAlive t u l)) type.is name.is location.is)))
    ∙ three trip.alive type.text name.text location.text

byebye-back : (nt usn : List ℕ) → good_text nt ≡ true → good_text usn ≡ true → read (byebye_text nt usn) ≡ trip.byebye nt usn
unfolding byebye_text byebye_headers notify_line boot_headers bytes agree upper
byebye-back nt usn p q =
    let s : List ℕ = byebye_text nt usn in
    let f : AllSound (byebye_headers nt usn) = byebye-sound nt usn p q in
    let nts = holds notify_line fixed.notify f (bytes "NTS") refl in
    let type = holds notify_line fixed.notify f (bytes "NT") refl in
    let name = holds notify_line fixed.notify f (bytes "USN") refl in
    ap (λ (a : ParseAnswer). content_of s a.message)
    (sym (by_first notify_line fixed.notify f)
    ∙ sym (is-byebye s (header s (bytes "NT")) (header s (bytes "USN")) (header s (bytes "LOCATION")) nts.is (sym nts.text) refl refl refl refl (given2 (λ t u. reads (NotifyByeBye t u)) type.is name.is)))
    ∙ two trip.byebye type.text name.text

response-back : (st usn loc : List ℕ) → good_text st ≡ true → good_text usn ≡ true → good_text loc ≡ true → read (response_text st usn loc) ≡ trip.response st usn loc
unfolding response_text response_headers response_line notify_line boot_headers bytes agree upper
response-back st usn loc p q r =
    let s : List ℕ = response_text st usn loc in
    let f : AllSound (response_headers st usn loc) = response-sound st usn loc p q r in
    let target = holds response_line fixed.ok f (bytes "ST") refl in
    let name = holds response_line fixed.ok f (bytes "USN") refl in
    let location = holds response_line fixed.ok f (bytes "LOCATION") refl in
    ap (λ (a : ParseAnswer). content_of s a.message) (sym (by_first response_line fixed.ok f) ∙ sym (given3 (λ t u l. reads (Response t u l)) target.is name.is location.is))
    ∙ three trip.response target.text name.text location.text

search-back : (st : List ℕ) → good_text st ≡ true → read (search_text st) ≡ trip.searching st 5
unfolding search_text search_headers search_line response_line notify_line bytes agree upper
search-back st p =
    let s : List ℕ = search_text st in
    let f : AllSound (search_headers st) = search-sound st p in
    let target = holds search_line fixed.search f (bytes "ST") refl in
    let mx = holds search_line fixed.search f (bytes "MX") refl in
    ap (λ (a : ParseAnswer). content_of s a.message) (sym (by_first search_line fixed.search f) ∙ sym (is-search s target.is mx.is (sym mx.text) (sym fixed.seconds) refl))
    ∙ ap (λ (x : List ℕ). trip.searching x 5) target.text

pub round_trip : RoundTrip
round_trip = record { search-back = search-back; response-back = response-back; notify-back = notify-back; byebye-back = byebye-back }
