-- Laws of loops that send the rows of a table.
use mathlib.Core.Path.{◌≡◌, sym, ◌∙◌, ap}
use mathlib.Core.Bool.{Bool, true, false, cond}
use mathlib.Core.List.{List, [], ◌∷◌, map}
use Prim.Native.Nat.{ℕ, ◌+◌, ◌*◌, ◌≤◌, ◌<◌}
use native.Mathlib.Omega.{arith}
use lib.ListN.{length, take, get_or}
use lib.Seq.{take_all}
use Rattle.engine.specs.Sizes.{record_size}
use Rattle.engine.specs.Held.{Text, Advertisement}
use Rattle.engine.specs.Records.{Record, SearchFrom, flat, search_on, notify, notify_on, is_due, reply_records, due_records}
use Rattle.engine.specs.Layout.{Room, Sent}
use Rattle.engine.specs.Arrays.{search_width, search_in, search_at, search_count, searches_in}
use Rattle.engine.specs.declared.advertisement.ResponseNeeded.{ResponseNeeded}
use Rattle.engine.proofs.Flat.{flat-one}
use Rattle.engine.proofs.Sending.{rest, Back}
use Rattle.engine.proofs.Runs as runs
use Rattle.engine.proofs.Runs.{Run}
use Rattle.engine.proofs.TableRows.{lines-length, lines_at}

-- ---- a loop over all rows of a table
all-rows : {A : Type 0} (f : A → List Record) (l : List A) (m : ℕ) → length l ≡ m → flat f (take m l) ≡ flat f l
all-rows f l m size = ap (flat f) (take_all m l (omega arith))

module _ {A : Type 0} {f : A → List Record} {l : List A} {m : ℕ} {b₀ : List ℕ} (size : length l ≡ m) where
  pub row-rest : {b : List ℕ} {k i : ℕ} (d : A) {a : A} → get_or l i d ≡ a → Room b₀ 0 (flat f l) → i < m → Run f l m b₀ b k i → Room (rest k b) 0 (f a)
  row-rest d e room h p = runs.more-rest d e (all-rows f l m size) room (omega arith) h p

  pub row-turn : {b b' part : List ℕ} {k n i : ℕ} (d : A) {a : A} → get_or l i d ≡ a → Room b₀ 0 (flat f l) → i < m → Run f l m b₀ b k i
      → Sent (f a) (rest k b) part n → Back b k part b' → Run f l m b₀ b' (k + n) (i + 1)
  row-turn d e room h p s back = runs.turn d e (all-rows f l m size) room (omega arith) h p s back

  pub row-fits : {b part : List ℕ} {k n i : ℕ} (d : A) {a : A} → get_or l i d ≡ a → Room b₀ 0 (flat f l) → i < m → Run f l m b₀ b k i → Sent (f a) (rest k b) part n
      → record_size * (k + n) ≤ length b
  row-fits d e room h p s = runs.turn-fits d e (all-rows f l m size) room (omega arith) h p s

  pub row-end : {b : List ℕ} {k i : ℕ} → m ≤ i → Run f l m b₀ b k i → Sent (flat f l) b₀ b k
  row-end h p = runs.end (all-rows f l m size) h p

-- ---- the subscriptions as a list
pub searches-length : (head ss : List ℕ) → length (searches_in head ss) ≡ search_count head
unfolding searches_in
searches-length head ss = lines-length search_width search_in (search_count head) ss

pub search_is : (head ss : List ℕ) (i : ℕ) → i < search_count head → get_or (searches_in head ss) i [] ≡ search_at i ss
unfolding searches_in
search_is head ss i h = lines_at search_width search_in (search_count head) i ss [] h

-- ---- from one address alone
module _ (source : ℕ) where
  pub searches-from : (ts : List Text) → flat (search_on (source ∷ [])) ts ≡ map (SearchFrom source) ts
  searches-from ts = flat-one (SearchFrom source) ts

  pub names-from : (as' : List Advertisement) → flat (notify_on (source ∷ [])) as' ≡ map (λ a. notify a source) as'
  names-from as' = flat-one (λ a. notify a source) as'

-- ---- a reply that is due, and one that is not
module _ (time : ℕ) (up : List ℕ) (a : Advertisement) {n : ResponseNeeded} (e : n ≡ a.needed) where
  pub due-now : is_due time n ≡ true → reply_records up a n ≡ due_records time up a
  unfolding due_records
  due-now d =
      ap (reply_records up a) e ∙ ap (λ (w : Bool). cond w (reply_records up a a.needed) []) (sym (ap (is_due time) (sym e) ∙ d))

  pub due-later : is_due time n ≡ false → [] ≡ due_records time up a
  unfolding due_records
  due-later d = ap (λ (w : Bool). cond w (reply_records up a a.needed) []) (sym (ap (is_due time) (sym e) ∙ d))
