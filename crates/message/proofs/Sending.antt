-- What a caller of the `build_*` cites: texts that are good and within their sizes are accepted where there is room for the longest message, and
-- a message written into the part of a buffer from `at` on is written into the buffer at `at`.
use mathlib.Core.Path.{◌≡◌, refl, ◌∙◌, ap}
use mathlib.Core.Bool.{Bool, true, false, cond, not, ◌||◌}
use mathlib.Core.List.{List, [], ◌∷◌, ◌++◌}
use Prim.Native.Nat.{ℕ, ◌+◌, ◌-◌, ◌≤◌}
use native.Mathlib.Omega.{arith}
use borrow.Author.Tests.{le-ltb}
use lib.Dec.{eqb, ltb}
use lib.ListN.{length, take, drop, length-drop}
use lib.Seq.{length-take-le}
use Rattle.text.specs.Good.{good_text}
use Rattle.text.specs.Put.{overwritten, Put}
use Rattle.message.specs.Build.{Bounded, type_max, name_max, build_location_max, message_max, any_over_size, any_not_good, build_refusal, Built, Builds, search_text, response_text, notify_text, byebye_text}
use Rattle.message.specs.Refusals.{accepted, text_over_size, text_not_good, buffer_short}
use Rattle.message.proofs.Building.{search-length, response-length, notify-length, byebye-length}
use Rattle.text.proofs.Writing as puts

-- "no message passes 506"
module _ (service name location : List ℕ) where
  pub search-most : length service ≤ type_max → length (search_text service) ≤ message_max
  search-most k = omega (arith, search-length service)

  pub byebye-most : length service ≤ type_max → length name ≤ name_max → length (byebye_text service name) ≤ message_max
  byebye-most k n = omega (arith, byebye-length service name)

  pub response-most : length service ≤ type_max → length name ≤ name_max → length location ≤ build_location_max
      → length (response_text service name location) ≤ message_max
  response-most k n l = omega (arith, response-length service name location)

  pub notify-most : length service ≤ type_max → length name ≤ name_max → length location ≤ build_location_max
      → length (notify_text service name location) ≤ message_max
  notify-most k n l = omega (arith, notify-length service name location)

-- a text that no build refuses
pub record Fit (t : Bounded) : Type 0 where
  pub size : length t.text ≤ t.largest
  pub good : good_text t.text ≡ true

pub data AllFit : List Bounded → Type 0 where
  none : AllFit []
  and : {t : Bounded} {ts : List Bounded} → Fit t → AllFit ts → AllFit (t ∷ ts)

not-over : {ts : List Bounded} → AllFit ts → any_over_size ts ≡ false
not-over none = refl
not-over (and {t} {ts} f r) = ap (λ (b : Bool). b || any_over_size ts) (le-ltb t.largest (length t.text) f.size) ∙ not-over r

all-good : {ts : List Bounded} → AllFit ts → any_not_good ts ≡ false
all-good none = refl
all-good (and {t} {ts} f r) = ap (λ (b : Bool). not b || any_not_good ts) f.good ∙ all-good r

pub never-refused : {ts : List Bounded} {m b : ℕ} → AllFit ts → m ≤ b → build_refusal ts m b ≡ accepted
unfolding build_refusal
never-refused {ts} {m} {b} f h =
    ap (λ (x : Bool). cond x text_over_size (cond (any_not_good ts) text_not_good (cond (ltb b m) buffer_short accepted))) (not-over f)
    ∙ ap (λ (x : Bool). cond x text_not_good (cond (ltb b m) buffer_short accepted)) (all-good f)
    ∙ ap (λ (x : Bool). cond x buffer_short accepted) (le-ltb b m h)

-- what is written: the message, or nothing where a text is refused
abbrev pub sent_text : List Bounded → List ℕ → List ℕ
sent_text ts message = cond (any_over_size ts || any_not_good ts) [] message

sent-test : (over bad : Bool) (message buffer after : List ℕ) (answer : Built)
    → answer.refusal ≡ cond over text_over_size (cond bad text_not_good accepted)
    → answer.len ≡ cond (eqb answer.refusal accepted) (length message) 0
    → after ≡ cond (eqb answer.refusal accepted) (message ++ drop (length message) buffer) buffer
    → Put buffer 0 (cond (over || bad) [] message) after answer.len
unfolding overwritten
sent-test true bad message buffer after answer e l w =
    let n : eqb answer.refusal accepted ≡ false = ap (λ (k : ℕ). eqb k accepted) e in
    record { place = l ∙ ap (λ (b : Bool). cond b (length message) 0) n; written = w ∙ ap (λ (b : Bool). cond b (message ++ drop (length message) buffer) buffer) n }
sent-test false true message buffer after answer e l w =
    let n : eqb answer.refusal accepted ≡ false = ap (λ (k : ℕ). eqb k accepted) e in
    record { place = l ∙ ap (λ (b : Bool). cond b (length message) 0) n; written = w ∙ ap (λ (b : Bool). cond b (message ++ drop (length message) buffer) buffer) n }
sent-test false false message buffer after answer e l w =
    let n : eqb answer.refusal accepted ≡ true = ap (λ (k : ℕ). eqb k accepted) e in
    let z : length message ≡ 0 + length message = omega arith in
    record {
      place = l ∙ ap (λ (b : Bool). cond b (length message) 0) n ∙ z;
      written =
          w
          ∙ ap (λ (b : Bool). cond b (message ++ drop (length message) buffer) buffer) n
          ∙ ap (λ (k : ℕ). message ++ drop k buffer) z;
    }

-- a build into a buffer that has room for the message
pub sent : {ts : List Bounded} {message buffer after : List ℕ} {answer : Built} → length message ≤ length buffer → Builds ts message buffer after answer
    → Put buffer 0 (sent_text ts message) after answer.len
unfolding build_refusal
sent {ts} {message} {buffer} {after} {answer} h p =
    let e : answer.refusal ≡ cond (any_over_size ts) text_over_size (cond (any_not_good ts) text_not_good accepted) =
    p.refusal
    ∙ ap (λ (b : Bool). cond (any_over_size ts) text_over_size (cond (any_not_good ts) text_not_good (cond b buffer_short accepted)))
    (le-ltb (length buffer) (length message) h)
    in
    sent-test (any_over_size ts) (any_not_good ts) message buffer after answer e p.len p.written

-- the same into `&mut outbox[at..]`, said of the whole outbox
pub sent-at : {ts : List Bounded} {message outbox d after : List ℕ} {answer : Built} (at : ℕ) → at + length message ≤ length outbox
    → Builds ts message (take (length outbox - at) (drop at outbox)) d answer
    → after ≡ take at outbox ++ (d ++ drop (length outbox - at) (drop at outbox))
    → Put outbox at (sent_text ts message) after (at + answer.len)
sent-at {ts} {message} {outbox} at h p e =
    let n : length (take (length outbox - at) (drop at outbox)) ≡ length outbox - at =
    length-take-le (length outbox - at) (drop at outbox) (omega (arith, length-drop at outbox))
    in
    puts.part at (omega arith) (sent (omega (arith, n)) p) e

-- with texts that fit, it is the message
pub sent-message : {ts : List Bounded} (message : List ℕ) → AllFit ts → sent_text ts message ≡ message
sent-message {ts} message f =
    ap (λ (b : Bool). cond (b || any_not_good ts) [] message) (not-over f) ∙ ap (λ (b : Bool). cond b [] message) (all-good f)
