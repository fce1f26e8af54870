-- Loops over subscriptions: whether any is to `ssdp:all`, and the mask, which is built from the last subscription to the first. The count of the mask's ones is
-- the number of subscriptions that match (document 01, 'Engine and ledger': "the number told is the count of its ones").
use mathlib.Core.Path.{◌≡◌, refl, sym, ◌∙◌, ap}
use mathlib.Core.Bool.{Bool, true, false, ◌||◌}
use mathlib.Core.List.{List, [], ◌∷◌}
use Prim.Native.Nat.{ℕ, zero, suc, ◌+◌, ◌*◌, ◌/◌, ◌%◌, ◌^◌, ◌≤◌, ◌<◌}
use native.Mathlib.Nat.{pow-suc}
use native.Mathlib.Omega.{arith}
use lib.Count.{ones, ones_step}
use lib.ListN.{length, drop}
use mir.Val.{bool_byte}
use lib.Pow.{pow_mono}
use Rattle.text.specs.Bytes.{equal}
use Rattle.engine.specs.Target.{ssdp_all, target_match}
use Rattle.engine.specs.Held.{Text}
use Rattle.engine.specs.Records.{any_all}
use Rattle.engine.specs.Arrays.{search_at, search_count, searches_in}
use Rattle.engine.specs.Replies.{one}
use Rattle.engine.proofs.SearchRows as rows
use Rattle.std.specs.List.{list_any, range_with_len}
use Rattle.engine.specs.Engine.{mask_of, told_of}

-- ---- any to `ssdp:all`, by the rows
module _ (head s : List ℕ) where
  any-from : (i m : ℕ) → i + m ≡ search_count head → list_any (λ i. equal (search_at i s) ssdp_all) (range_with_len i m) ≡ any_all (drop i (searches_in head s))
  unfolding any_all
  any-from i zero e = rw (rows.none_left head s i (omega arith))
  any-from i (suc m) e =
      let h : i + 1 + m ≡ search_count head = omega arith in
      ap (λ (b : Bool). equal (search_at i s) ssdp_all || b) (any-from (i + 1) m h) ∙ sym (ap any_all (rows.next-is head s i (omega arith)))

  pub any-of : {n : ℕ} → n ≡ search_count head → list_any (λ i. equal (search_at i s) ssdp_all) (range_with_len 0 n) ≡ any_all (searches_in head s)
  any-of {n} e = any-from 0 n (omega arith)

-- ---- the mask
bit-number : (b : Bool) → bool_byte b ≡ one b
bit-number true = refl
bit-number false = refl

pub bit-below : (b : Bool) → bool_byte b ≤ 1
bit-below true = omega arith
bit-below false = omega arith

module _ (service : Text) where
  pub mask-none : {rest : List Text} → rest ≡ [] → 0 ≡ mask_of rest service
  unfolding mask_of
  mask-none e = rw e

  pub mask-turn : (mask : ℕ) (bit : Bool) {rest more : List Text} {s : Text} → rest ≡ s ∷ more → bit ≡ target_match s service → mask ≡ mask_of more service
      → 2 * mask + bool_byte bit ≡ mask_of rest service
  unfolding mask_of
  mask-turn mask bit e b m =
      let turned : 2 * mask + bool_byte bit ≡ one bit + 2 * mask = omega (arith, bit-number bit) in
      turned ∙ rw (e, b, m)

  bit-small : (b : Bool) → one b ≤ 1
  bit-small true = omega arith
  bit-small false = omega arith

  mask-small : (l : List Text) → mask_of l service < 2 ^ length l
  unfolding mask_of
  mask-small [] = omega arith
  mask-small (s ∷ l) = omega (arith, bit-small (target_match s service), mask-small l, pow-suc 2 (length l))

  -- that of 31 subscriptions or fewer has room for one bit more
  pub mask_fits : (l : List Text) → length l ≤ 31 → mask_of l service < 2147483648
  mask_fits l h = omega (arith, mask-small l, pow_mono {i = length l} {j = 31} h)

  -- the count of ones of a mask is the number of matches
  bit-ones : (b : Bool) (m : ℕ) → ones (one b + 2 * m) ≡ one b + ones m
  bit-ones b m =
      let low : (one b + 2 * m) % 2 ≡ one b = omega (arith, bit-small b) in
      let high : (one b + 2 * m) / 2 ≡ m = omega (arith, bit-small b) in
      ones_step (one b + 2 * m) ∙ ap (λ (x : ℕ). x + ones ((one b + 2 * m) / 2)) low ∙ ap (λ (x : ℕ). one b + ones x) high

  pub told-ones : (l : List Text) → ones (mask_of l service) ≡ told_of l service
  unfolding mask_of told_of ones
  told-ones [] = refl
  told-ones (s ∷ l) = bit-ones (target_match s service) (mask_of l service) ∙ ap (λ (x : ℕ). one (target_match s service) + x) (told-ones l)
