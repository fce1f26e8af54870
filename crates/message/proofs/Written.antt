-- A written message gives its headers back, whatever its kind: one induction over the headers.
use mathlib.Core.Path.{◌≡◌, refl, sym, ◌∙◌, ap}
use mathlib.Core.Bool.{Bool, true, false, cond, ◌&&◌}
use mathlib.Core.List.{List, [], ◌∷◌, ◌++◌, append_assoc}
use mathlib.Core.Option.{Option, none, some}
use Prim.Native.Nat.{ℕ, suc, ◌+◌, ◌-◌, ◌<◌}
use native.Mathlib.Omega.{arith}
use borrow.Author.Tests.{lt-ltb, lt-leb}
use lib.Dec.{eqb, leb}
use lib.ListN.{length, take, drop, length-append}
use lib.Seq.{take-append_seam, drop_at, drop-append-add}
use Rattle.text.specs.Bytes.{bytes, index_of, first_place, equal_upper}
use Rattle.text.specs.Good.{good_text}
use Rattle.text.specs.Lines.{lines, bare, without, line_of, first_line}
use Rattle.text.specs.Utf8.{utf8, rest, lead_of}
use Rattle.text.specs.White.{trimmed, leading, trailing, run, white_space}
use Rattle.text.specs.declared.white.Place.{Place}
use Rattle.text.proofs.Encoding.{utf8_append}
use Rattle.text.proofs.FirstLine.{lines-append, bare-append}
use Rattle.text.proofs.GoodText.{Good, good}
use Rattle.message.specs.Build.{HeaderField, crlf, header_line, header_lines, message}
use Rattle.message.specs.Headers.{colon, has_colon, shifted, value_of, line_header, later, header_in, after_first, header}
use Rattle.message.specs.Parse.{field_at, start_line}
use Rattle.message.specs.Headers.{Header}
use Rattle.std.specs.Prelude.{None, Some}

-- a byte that a text lacks
lacking-step : (b : ℕ) (s t : List ℕ) (x : Bool) → (index_of b s ≡ length s → index_of b (s ++ t) ≡ length s + index_of b t)
    → cond x 0 (suc (index_of b s)) ≡ suc (length s) → cond x 0 (suc (index_of b (s ++ t))) ≡ suc (length s) + index_of b t
lacking-step b s t true k e = absurd (omega (arith, e))
lacking-step b s t false k e = let q : index_of b s ≡ length s = omega (arith, e) in omega (arith, k q)

lacking : (b : ℕ) (s t : List ℕ) → index_of b s ≡ length s → index_of b (s ++ t) ≡ length s + index_of b t
unfolding index_of first_place
lacking b [] t e = omega arith
lacking b (a ∷ s) t e = lacking-step b s t (eqb a b) (lacking b s t) e

-- a header that may be written
pub record Sound (h : HeaderField) : Type 0 where
  pub key : good_text h.key ≡ true
  pub no_colon : index_of 58 h.key ≡ length h.key
  pub value : good_text h.value ≡ true

pub data AllSound : List HeaderField → Type 0 where
  no_more : AllSound []
  one_more : {h : HeaderField} {hs : List HeaderField} → Sound h → AllSound hs → AllSound (h ∷ hs)

-- a header's line without its end
abbrev text_of : HeaderField → List ℕ
text_of h = h.key ++ 58 ∷ 32 ∷ h.value

line-is : (h : HeaderField) (t : List ℕ) → header_line h ++ t ≡ text_of h ++ 13 ∷ 10 ∷ t
unfolding header_line bytes
line-is h t = simp append_assoc

text-length : (h : HeaderField) → length (text_of h) ≡ length h.key + (2 + length h.value)
text-length h = length-append h.key (58 ∷ 32 ∷ h.value) ∙ omega arith

after-key : (b : ℕ) (h : HeaderField) → index_of b h.key ≡ length h.key → index_of b (text_of h) ≡ length h.key + index_of b (58 ∷ 32 ∷ h.value)
after-key b h e = lacking b h.key (58 ∷ 32 ∷ h.value) e

-- the line in UTF-8, in one line, and split at its colon
behind-key : (t : List ℕ) → utf8 (58 ∷ 32 ∷ t) ≡ utf8 t
unfolding utf8 rest lead_of
behind-key t = refl

no_feed : (t : List ℕ) → index_of 10 (58 ∷ 32 ∷ t) ≡ 2 + index_of 10 t
unfolding index_of first_place
no_feed t = omega arith

at-colon : (t : List ℕ) → index_of 58 (58 ∷ t) ≡ 0
unfolding index_of first_place
at-colon t = refl

module _ {h : HeaderField} (f : Sound h) where
  key-good : Good h.key
  key-good = good h.key f.key

  value-good : Good h.value
  value-good = good h.value f.value

  text-encoded : utf8 (text_of h) ≡ true
  text-encoded = utf8_append h.key (58 ∷ 32 ∷ h.value) key-good.encoded ∙ behind-key h.value ∙ value-good.encoded

  text-one-line : index_of 10 (text_of h) ≡ length (text_of h)
  text-one-line =
      after-key 10 h key-good.no_line_feed ∙ omega (arith, no_feed h.value, value-good.no_line_feed, text-length h)

  text-colon : index_of 58 (text_of h) ≡ length h.key
  text-colon = after-key 58 h f.no_colon ∙ omega (arith, at-colon (32 ∷ h.value))

-- the value behind the blank, unless it is empty
abbrev place : List ℕ → Place
place [] = record { start = 0; len = 0 }
place (a ∷ t) = record { start = 1; len = length (a ∷ t) }

blank-leading : (t : List ℕ) → leading (32 ∷ t) ≡ suc (leading t)
unfolding leading run white_space
blank-leading t = refl

abbrev placed : ℕ → ℕ → Place
placed i n = record { start = i; len = n }

value-place : (t : List ℕ) → Good t → trimmed (32 ∷ t) ≡ place t
unfolding trimmed leading run white_space
value-place [] g = refl
value-place (a ∷ t) g =
    let f : leading (32 ∷ a ∷ t) ≡ 1 = blank-leading (a ∷ t) ∙ ap suc g.front in
    let n : 1 < length (32 ∷ a ∷ t) = omega arith in
    let m : length (a ∷ t) - trailing (a ∷ t) ≡ length (a ∷ t) = omega (arith, g.end) in
    ap trimmed_from f
    ∙ ap (λ (x : Bool). cond x (placed 0 0) (placed 1 (length (a ∷ t) - trailing (a ∷ t)))) (lt-leb (length (32 ∷ a ∷ t)) 1 n)
    ∙ ap (placed 1) m
  where
    trimmed_from : ℕ → Place
    trimmed_from j =
        cond (leb (length (32 ∷ a ∷ t)) j) (placed 0 0)
        (placed j (length (drop j (32 ∷ a ∷ t)) - trailing (drop j (32 ∷ a ∷ t))))

value-of : {h : HeaderField} → Sound h → value_of (text_of h) ≡ shifted (length h.key + 1) (place h.value)
unfolding value_of
value-of {h} f =
    ap (λ (n : ℕ). shifted (n + 1) (trimmed (drop (n + 1) (text_of h)))) (text-colon f)
    ∙ ap (λ (l : List ℕ). shifted (length h.key + 1) (trimmed l)) (drop-append-add h.key (58 ∷ 32 ∷ h.value) 1)
    ∙ ap (shifted (length h.key + 1)) (value-place h.value (value-good f))

-- the value stands there in a datagram that has the line from `at` on
value_there : (before key value behind : List ℕ) (at : ℕ) → at ≡ length before → (s : List ℕ) → s ≡ before ++ ((key ++ 58 ∷ 32 ∷ value) ++ behind)
    → field_at s (shifted at (shifted (length key + 1) (place value))) ≡ value
value_there before key [] behind at e s q = refl
value_there before key (a ∷ t) behind at e s q =
    let v : List ℕ = a ∷ t in
    let m : List ℕ = before ++ (key ++ 58 ∷ 32 ∷ []) in
    let r : s ≡ m ++ (v ++ behind) = q ∙ simp append_assoc in
    let n : length m ≡ at + (length key + 1 + 1) = omega (arith, length-append before (key ++ 58 ∷ 32 ∷ []), length-append key (58 ∷ 32 ∷ []), e) in
    ap (λ (x : List ℕ). take (length v) (drop (at + (length key + 1 + 1)) x)) r
    ∙ ap (take (length v)) (drop_at m (v ++ behind) (at + (length key + 1 + 1)) n)
    ∙ take-append_seam v behind

-- what a header holds in a datagram, and what the last of some written headers of a key holds
abbrev pub seen : List ℕ → Header → Option (List ℕ)
seen s None = none
seen s (Some p) = some (field_at s p)

abbrev pub or_else : Option (List ℕ) → Option (List ℕ) → Option (List ℕ)
or_else none y = y
or_else (some x) y = some x

abbrev pub value_in : List ℕ → List HeaderField → Option (List ℕ)
value_in key [] = none
value_in key (h ∷ hs) = or_else (value_in key hs) (cond (equal_upper h.key key) (some h.value) none)

seen-later : (s : List ℕ) (x y : Header) → seen s (later x y) ≡ or_else (seen s x) (seen s y)
seen-later s (Some p) y = refl
seen-later s None y = refl

seen-cond : (s : List ℕ) (p : Place) (b : Bool) {v : List ℕ} → field_at s p ≡ v → seen s (cond b (Some p) None) ≡ cond b (some v) none
seen-cond s p true e = ap some e
seen-cond s p false e = refl

-- one line
seen-line : (key : List ℕ) {h : HeaderField} → Sound h → (s before behind : List ℕ) (at : ℕ) → at ≡ length before → s ≡ before ++ (text_of h ++ behind)
    → seen s (line_header key at (text_of h)) ≡ cond (equal_upper h.key key) (some h.value) none
unfolding line_header
seen-line key {h} f s before behind at e q =
    let n : colon (text_of h) ≡ length h.key = text-colon f in
    let c : has_colon (text_of h) ≡ true = lt-ltb (colon (text_of h)) (length (text_of h)) (omega (arith, n, text-length h)) in
    let k : take (colon (text_of h)) (text_of h) ≡ h.key = ap (λ (i : ℕ). take i (text_of h)) n ∙ take-append_seam h.key (58 ∷ 32 ∷ h.value) in
    ap (λ (b : Bool). seen s (cond (b && equal_upper (take (colon (text_of h)) (text_of h)) key) (Some (shifted at (value_of (text_of h)))) None)) c
    ∙ ap (λ (l : List ℕ). seen s (cond (equal_upper l key) (Some (shifted at (value_of (text_of h)))) None)) k
    ∙ ap (λ (p : Place). seen s (cond (equal_upper h.key key) (Some (shifted at p)) None)) (value-of f)
    ∙ seen-cond s (shifted at (shifted (length h.key + 1) (place h.value))) (equal_upper h.key key) (value_there before h.key h.value behind at e s q)

-- the blank line holds nothing
blank-line : (key : List ℕ) (at : ℕ) → header_in key at (lines crlf) ≡ None
unfolding header_in lines bare without line_header index_of first_place
blank-line key at = refl

-- the lines of some headers
lines_step : {h : HeaderField} (hs : List HeaderField) → Sound h → lines (header_lines (h ∷ hs)) ≡ (text_of h ++ crlf) ∷ lines (header_lines hs)
unfolding header_lines
lines_step {h} hs f = ap lines (line-is h (header_lines hs)) ∙ lines-append (text_of h) (header_lines hs) (text-one-line f)

pub seen-headers : (key s before : List ℕ) (at : ℕ) {hs : List HeaderField} → AllSound hs → at ≡ length before → s ≡ before ++ header_lines hs
    → seen s (header_in key at (lines (header_lines hs))) ≡ value_in key hs
unfolding header_lines header_in
seen-headers key s before at no_more e q = ap (seen s) (blank-line key at)
seen-headers key s before at (one_more {h} {hs} f r) e q =
    let l : List ℕ = text_of h in
    let next : List ℕ = before ++ (l ++ crlf) in
    let q₁ : s ≡ before ++ (l ++ 13 ∷ 10 ∷ header_lines hs) = q ∙ ap (λ (x : List ℕ). before ++ x) (line-is h (header_lines hs)) in
    let q₂ : s ≡ next ++ header_lines hs = q₁ ∙ ap (λ (x : List ℕ). before ++ x) (sym (append_assoc l crlf (header_lines hs))) ∙ sym (append_assoc before (l ++ crlf) (header_lines hs)) in
    let e₂ : at + length (l ++ crlf) ≡ length next = omega (arith, length-append before (l ++ crlf), e) in
    ap (λ (x : List (List ℕ)). seen s (header_in key at x)) (lines_step hs f)
    ∙ seen-later s (header_in key (at + length (l ++ crlf)) (lines (header_lines hs))) (line_header key at (bare (l ++ crlf)))
    ∙ ap (λ (x : Option (List ℕ)). or_else x (seen s (line_header key at (bare (l ++ crlf))))) (seen-headers key s next (at + length (l ++ crlf)) r e₂ q₂)
    ∙ ap (λ (x : List ℕ). or_else (value_in key hs) (seen s (line_header key at x))) (bare-append l)
    ∙ ap (or_else (value_in key hs)) (seen-line key f s before (13 ∷ 10 ∷ header_lines hs) at e q₁)

-- a whole message
encoded-lines : {hs : List HeaderField} → AllSound hs → utf8 (header_lines hs) ≡ true
unfolding header_lines utf8 rest lead_of
encoded-lines no_more = refl
encoded-lines (one_more {h} {hs} f r) = ap utf8 (line-is h (header_lines hs)) ∙ utf8_append (text_of h) (13 ∷ 10 ∷ header_lines hs) (text-encoded f) ∙ encoded-lines r

crlf-encoded : (t : List ℕ) → utf8 (13 ∷ 10 ∷ t) ≡ utf8 t
unfolding utf8 rest lead_of
crlf-encoded t = refl

module _ (first : List ℕ) (start : good_text first ≡ true) {hs : List HeaderField} (f : AllSound hs) where
  message-is : message first hs ≡ first ++ 13 ∷ 10 ∷ header_lines hs
  unfolding message
  message-is = append_assoc first crlf (header_lines hs)

  pub message-some : length (message first hs) ≡ 0 → ⊥
  message-some e = omega (arith, e, ap length message-is, length-append first (13 ∷ 10 ∷ header_lines hs))

  pub message-encoded : utf8 (message first hs) ≡ true
  message-encoded = ap utf8 message-is ∙ utf8_append first (13 ∷ 10 ∷ header_lines hs) (good first start).encoded ∙ crlf-encoded (header_lines hs) ∙ encoded-lines f

  message-lines : lines (message first hs) ≡ (first ++ crlf) ∷ lines (header_lines hs)
  message-lines = ap lines message-is ∙ lines-append first (header_lines hs) (good first start).no_line_feed

  pub message-start : start_line (message first hs) ≡ first
  unfolding first_line
  message-start =
      ap (λ (ls : List (List ℕ)). take (line_of ls).len (message first hs)) message-lines
      ∙ ap (λ (l : List ℕ). take (length l) (message first hs)) (bare-append first)
      ∙ ap (take (length first)) message-is
      ∙ take-append_seam first (13 ∷ 10 ∷ header_lines hs)

  pub message-header : (key : List ℕ) → seen (message first hs) (header (message first hs) key) ≡ value_in key hs
  unfolding header after_first message
  message-header key =
      ap (λ (ls : List (List ℕ)). seen (message first hs) (after_first key ls)) message-lines
      ∙ seen-headers key (message first hs) (first ++ crlf) (length (first ++ crlf)) f refl refl
