-- A loop that sends: it goes over a list and writes the records of each element behind those of the elements before. The invariant `Run` is the
-- same whatever the list and the records are.
use mathlib.Core.Path.{◌≡◌, sym, ◌∙◌, ap}
use mathlib.Core.List.{List, [], ◌∷◌, map}
use Prim.Native.Nat.{ℕ, ◌+◌, ◌*◌, ◌≤◌, ◌<◌}
use native.Mathlib.Omega.{arith}
use lib.ListN.{length, take, get_or, length-append}
use Rattle.engine.specs.Sizes.{record_size}
use Rattle.engine.specs.Records.{Record, flat}
use Rattle.engine.specs.Layout.{Room, Sends, Sent}
use Rattle.engine.proofs.Flat.{flat-more, flat-fewer, flat-one}
use Rattle.engine.proofs.Sending as sending
use lib.Seq.{take_all}

-- of the first m elements of l, those before i are done, and have the first k records
pub record Run {A : Type 0} (f : A → List Record) (l : List A) (m : ℕ) (outbox₀ outbox : List ℕ) (k i : ℕ) : Type 0 where
  pub within : i ≤ m
  pub sends : Sends outbox₀ 0 (flat f (take i l)) outbox k

module _ {A : Type 0} {f : A → List Record} {l : List A} {m : ℕ} {b₀ : List ℕ} where
  pub start : Run f l m b₀ b₀ 0 0
  unfolding flat
  start = record { within = omega arith; sends = sending.none (omega arith) }

  -- there is room for one more element's records, if there is for all
  more : {b : List ℕ} {k i : ℕ} {rs : List Record} (d : A) → flat f (take m l) ≡ rs → Room b₀ 0 rs → m ≤ length l → i < m → Run f l m b₀ b k i
      → Room b k (f (get_or l i d))
  more {b} {k} {i} d all room inside h p =
      omega (
        arith,
        p.sends.number,
        sending.size p.sends,
        ap length all,
        flat-fewer f l (i + 1) m (omega arith),
        ap length (flat-more f l i d (omega arith)),
        length-append (flat f (take i l)) (f (get_or l i d)),
      )

  pub more-rest : {b : List ℕ} {k i : ℕ} {rs : List Record} (d : A) {a : A} → get_or l i d ≡ a → flat f (take m l) ≡ rs → Room b₀ 0 rs → m ≤ length l → i < m → Run f l m b₀ b k i
      → Room (sending.rest k b) 0 (f a)
  more-rest {b} {k} d {a} e all room inside h p = let r = more d all room inside h p in sending.rest-room k b (f a) (omega (arith, ap (λ (x : A). length (f x)) e))

  pub turn : {b b' part : List ℕ} {k n i : ℕ} {rs : List Record} (d : A) {a : A} → get_or l i d ≡ a → flat f (take m l) ≡ rs → Room b₀ 0 rs → m ≤ length l → i < m → Run f l m b₀ b k i
      → Sent (f a) (sending.rest k b) part n → sending.Back b k part b' → Run f l m b₀ b' (k + n) (i + 1)
  turn {k = k} {i = i} d e all room inside h p s back = record {
    within = omega arith;
    sends = sending.of (sym (flat-more f l i d (omega arith))) (sending.next p.sends (sending.part k (more d all room inside h p) (sending.sent-as s (ap f (sym e))) back));
  }

  -- the records so far are within the outbox
  pub turn-fits : {b part : List ℕ} {k n i : ℕ} {rs : List Record} (d : A) {a : A} → get_or l i d ≡ a → flat f (take m l) ≡ rs → Room b₀ 0 rs → m ≤ length l → i < m → Run f l m b₀ b k i
      → Sent (f a) (sending.rest k b) part n → record_size * (k + n) ≤ length b
  turn-fits {k = k} d e all room inside h p s = let r = more d all room inside h p in omega (arith, s.number, ap (λ (x : A). length (f x)) e)

  pub end : {b : List ℕ} {k i : ℕ} {rs : List Record} → flat f (take m l) ≡ rs → m ≤ i → Run f l m b₀ b k i → Sent rs b₀ b k
  end {b} {k} {i} all h p =
      let e : i ≡ m = omega (arith, p.within) in
      sending.sent (sending.of (ap (λ (j : ℕ). flat f (take j l)) e ∙ all) p.sends)

-- the lists of the loops over a slice
module _ {A : Type 0} (l : List A) where
  whole : take (length l) l ≡ l
  whole = take_all (length l) l (omega arith)

  -- one record for each
  pub each : (g : A → Record) → flat (λ a. g a ∷ []) (take (length l) l) ≡ map g l
  each g = flat-one g (take (length l) l) ∙ ap (map g) whole

  -- several for each
  pub several : (g : A → List Record) → flat g (take (length l) l) ≡ flat g l
  several g = ap (flat g) whole
