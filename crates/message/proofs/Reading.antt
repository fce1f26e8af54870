-- Laws of the definitions of `parse`: each of its answers, from the tests and headers that it was made of.
use mathlib.Core.Path.{◌≡◌, refl, sym, ◌∙◌, ap}
use mathlib.Core.Bool.{Bool, true, false, cond, not}
use mathlib.Core.List.{List, [], ◌∷◌}
use Prim.Native.Nat.{ℕ, ◌≤◌}
use native.Mathlib.Omega.{arith}
use borrow.Author.Tests.{ne_eqb}
use lib.ListN.{length, take, drop, get_or}
use lib.Seq.{length-take-le}
use Rattle.text.specs.Bytes.{bytes, equal}
use Rattle.text.specs.Lines.{lines, first_line}
use Rattle.text.specs.Number.{number, max8}
use Rattle.text.specs.Utf8.{utf8}
use Rattle.text.specs.declared.lines.Line.{Line}
use Rattle.text.specs.declared.white.Place.{Place}
use Rattle.text.proofs.FirstLine.{Joined, joined}
use Rattle.message.specs.Build.{notify_line, response_line, search_line}
use Rattle.message.specs.Headers.{header, header_in, header_from, headers_from, after_first, keys, listed}
use Rattle.message.specs.declared.headers.Headers.{Headers}
use Rattle.message.specs.Refusals.{datagram_empty, datagram_invalid}
use Rattle.message.specs.Parse.{ParseAnswer, refuses, field_at, given, alive_of, byebye_of, notify_of, response_of, search_in, search_of, start_line, notify_from, response_from, search_from, parsed}
use Rattle.message.specs.Headers.{Header}
use Rattle.std.specs.Prelude.{Option, None, Some}

-- a choice whose test is known
pub is-so : {t t' : Bool} {m a : ParseAnswer} (b : ParseAnswer) → t ≡ t' → t ≡ true → m ≡ a → m ≡ cond t' a b
is-so {t} {t'} {m} {a} b e f g = g ∙ sym (ap (λ (x : Bool). cond x a b) (sym e ∙ f))

pub is-not : {t t' : Bool} {m b : ParseAnswer} (a : ParseAnswer) → t ≡ t' → t ≡ false → m ≡ b → m ≡ cond t' a b
is-not {t} {t'} {m} {b} a e f g = g ∙ sym (ap (λ (x : Bool). cond x a b) (sym e ∙ f))

-- fields whose headers are there
pub given1 : {a : Header} {x : Place} (f : Place → ParseAnswer) → a ≡ Some x → f x ≡ given a f
given1 f p = sym (ap (λ (h : Header). given h f) p)

pub given2 : {a b : Header} {x y : Place} (f : Place → Place → ParseAnswer) → a ≡ Some x → b ≡ Some y → f x y ≡ given a (λ x. given b (λ y. f x y))
given2 {a} {b} {x} f p q = given1 (f x) q ∙ given1 (λ x. given b (λ y. f x y)) p

pub given3 : {a b c : Header} {x y z : Place} (f : Place → Place → Place → ParseAnswer) → a ≡ Some x → b ≡ Some y → c ≡ Some z
    → f x y z ≡ given a (λ x. given b (λ y. given c (λ z. f x y z)))
given3 {a} {b} {c} {x} f p q r = given2 (f x) q r ∙ given1 (λ x. given b (λ y. given c (λ z. f x y z))) p

-- a notify, from the value of its NTS
module _ (s : List ℕ) {nts : Header} (nt usn location : Header) {p : Place} (there : nts ≡ Some p) {service : List ℕ} (at : service ≡ field_at s p) where
  by-service : cond (equal service (bytes "ssdp:alive")) (alive_of nt usn location) (cond (equal service (bytes "ssdp:byebye")) (byebye_of nt usn) (refuses datagram_invalid))
      ≡ notify_of s nts nt usn location
  by-service =
      ap (λ (l : List ℕ). cond (equal l (bytes "ssdp:alive")) (alive_of nt usn location) (cond (equal l (bytes "ssdp:byebye")) (byebye_of nt usn) (refuses datagram_invalid))) at
      ∙ given1 (λ p. cond (equal (field_at s p) (bytes "ssdp:alive")) (alive_of nt usn location) (cond (equal (field_at s p) (bytes "ssdp:byebye")) (byebye_of nt usn) (refuses datagram_invalid))) there

  module _ {t : Bool} (alive : t ≡ equal service (bytes "ssdp:alive")) where
    pub is-alive : {m : ParseAnswer} → t ≡ true → m ≡ alive_of nt usn location → m ≡ notify_of s nts nt usn location
    is-alive f g = is-so _ alive f g ∙ by-service

    pub is-byebye : {u : Bool} {m : ParseAnswer} → t ≡ false → u ≡ equal service (bytes "ssdp:byebye") → u ≡ true → m ≡ byebye_of nt usn → m ≡ notify_of s nts nt usn location
    is-byebye f e g h = is-not _ alive f (is-so _ e g h) ∙ by-service

    pub is-neither : {u : Bool} → t ≡ false → u ≡ equal service (bytes "ssdp:byebye") → u ≡ false → refuses datagram_invalid ≡ notify_of s nts nt usn location
    is-neither f e g = is-not _ alive f (is-not _ e g refl) ∙ by-service

-- a search, from the number of its MX
module _ (s : List ℕ) {st mx : Header} {x y : Place} (p : st ≡ Some x) (q : mx ≡ Some y) {l : List ℕ} (at : l ≡ field_at s y) {n : Option ℕ} (e : n ≡ number max8 l) where
  pub is-search : {m : ParseAnswer} → m ≡ search_in x n → m ≡ search_of s st mx
  is-search f =
      f ∙ ap (search_in x) (e ∙ ap (number max8) at) ∙ given2 (λ t p. search_in t (number max8 (field_at s p))) p q

-- the answers of `parse`
pub is_empty : (s : List ℕ) → length s ≡ 0 → refuses datagram_empty ≡ parsed s
unfolding parsed
is_empty [] h = refl
is_empty (b ∷ s) h = absurd (omega arith)

four : (f : Header → Header → Header → Header → ParseAnswer) {a b c d a' b' c' d' : Header} → a ≡ a' → b ≡ b' → c ≡ c' → d ≡ d' → f a b c d ≡ f a' b' c' d'
four f p q r s = cc

three : (f : Header → Header → Header → ParseAnswer) {a b c a' b' c' : Header} → a ≡ a' → b ≡ b' → c ≡ c' → f a b c ≡ f a' b' c'
three f p q r = cc

two : (f : Header → Header → ParseAnswer) {a b a' b' : Header} → a ≡ a' → b ≡ b' → f a b ≡ f a' b'
two f p q = cc

-- the messages read from the table of headers
module _ (s : List ℕ) (from : ℕ) {h : Headers} (table : listed h ≡ headers_from s from) where
  pub notify_read : notify_of s h.nts h.nt h.usn h.location ≡ notify_from s from
  unfolding notify_from keys
  notify_read = four (notify_of s) (ap (λ (l : List Header). get_or l 3 None) table) (ap (λ (l : List Header). get_or l 0 None) table) (ap (λ (l : List Header). get_or l 4 None) table) (ap (λ (l : List Header). get_or l 5 None) table)

  pub response_read : response_of h.st h.usn h.location ≡ response_from s from
  unfolding response_from keys
  response_read = three response_of (ap (λ (l : List Header). get_or l 1 None) table) (ap (λ (l : List Header). get_or l 4 None) table) (ap (λ (l : List Header). get_or l 5 None) table)

  pub search_read : search_of s h.st h.mx ≡ search_from s from
  unfolding search_from keys
  search_read = two (search_of s) (ap (λ (l : List Header). get_or l 1 None) table) (ap (λ (l : List Header). get_or l 2 None) table)

-- the message of each first line
abbrev pub notified : List ℕ → ParseAnswer
notified s = notify_of s (header s (bytes "NTS")) (header s (bytes "NT")) (header s (bytes "USN")) (header s (bytes "LOCATION"))

abbrev pub responded : List ℕ → ParseAnswer
responded s = response_of (header s (bytes "ST")) (header s (bytes "USN")) (header s (bytes "LOCATION"))

abbrev pub searched : List ℕ → ParseAnswer
searched s = search_of s (header s (bytes "ST")) (header s (bytes "MX"))

abbrev pub by_line : List ℕ → List ℕ → ParseAnswer
by_line s first = cond (equal first notify_line) (notified s) (cond (equal first response_line) (responded s) (cond (equal first search_line) (searched s) (refuses datagram_invalid)))

module _ (s : List ℕ) (some : length s ≡ 0 → ⊥) {u : Bool} (encoded : u ≡ utf8 s) where
  not-empty : cond (not (utf8 s)) (refuses datagram_invalid) (by_line s (start_line s)) ≡ parsed s
  unfolding parsed
  not-empty = sym (ap (λ (b : Bool). cond b (refuses datagram_empty) (cond (not (utf8 s)) (refuses datagram_invalid) (by_line s (start_line s)))) (ne_eqb (length s) 0 some))

  pub not-encoded : u ≡ false → refuses datagram_invalid ≡ parsed s
  not-encoded f = sym (ap (λ (b : Bool). cond (not b) (refuses datagram_invalid) (by_line s (start_line s))) (sym encoded ∙ f)) ∙ not-empty

  pub with_start : u ≡ true → {first : List ℕ} → first ≡ start_line s → by_line s first ≡ parsed s
  with_start ok start =
      ap (by_line s) start ∙ sym (ap (λ (b : Bool). cond (not b) (refuses datagram_invalid) (by_line s (start_line s))) (sym encoded ∙ ok)) ∙ not-empty

  module _ (ok : u ≡ true) {r : Line} (line : r ≡ first_line s) {first : List ℕ} (start : first ≡ take r.len s) where
    line_of : Joined s r
    line_of = joined s (omega (arith, some)) line

    pub first-inside : r.len ≤ length s
    first-inside = omega (arith, line_of.short, line_of.inside)

    by-line : by_line s first ≡ parsed s
    by-line = with_start ok (start ∙ ap (λ (x : Line). take x.len s) line)

    -- the lines behind the first give the header of each key
    look : (key : List ℕ) → header_from s r.next key ≡ header s key
    unfolding header after_first
    look key =
        sym (ap (after_first key) line_of.cut_off
        ∙ ap (λ (n : ℕ). header_in key n (lines (drop r.next s))) (length-take-le r.next s line_of.inside))

    notified-is : notify_from s r.next ≡ notified s
    unfolding notify_from
    notified-is = four (notify_of s) (look (bytes "NTS")) (look (bytes "NT")) (look (bytes "USN")) (look (bytes "LOCATION"))

    responded-is : response_from s r.next ≡ responded s
    unfolding response_from
    responded-is = three response_of (look (bytes "ST")) (look (bytes "USN")) (look (bytes "LOCATION"))

    searched-is : search_from s r.next ≡ searched s
    unfolding search_from
    searched-is = two (search_of s) (look (bytes "ST")) (look (bytes "MX"))

    module _ {t : Bool} (a : t ≡ equal first notify_line) where
      pub parsed-notify : {m : ParseAnswer} → t ≡ true → m ≡ notify_from s r.next → m ≡ parsed s
      parsed-notify f g = is-so _ a f (g ∙ notified-is) ∙ by-line

      module _ (f : t ≡ false) {v : Bool} (b : v ≡ equal first response_line) where
        pub parsed-response : {m : ParseAnswer} → v ≡ true → m ≡ response_from s r.next → m ≡ parsed s
        parsed-response g h = is-not _ a f (is-so _ b g (h ∙ responded-is)) ∙ by-line

        module _ (g : v ≡ false) {w : Bool} (c : w ≡ equal first search_line) where
          pub parsed-search : {m : ParseAnswer} → w ≡ true → m ≡ search_from s r.next → m ≡ parsed s
          parsed-search h k = is-not _ a f (is-not _ b g (is-so _ c h (k ∙ searched-is))) ∙ by-line

          pub parsed-none : w ≡ false → refuses datagram_invalid ≡ parsed s
          parsed-none h = is-not _ a f (is-not _ b g (is-not _ c h refl)) ∙ by-line
