-- How many records each run over the tables has (document 01, 'Outbox': "the record count, at most 120").
use mathlib.Core.Path.{◌≡◌, ◌∙◌}
use mathlib.Core.Bool.{Bool, true, false, cond, ◌||◌}
use mathlib.Core.List.{List, [], ◌∷◌, map}
use Prim.Native.Nat.{ℕ, ◌+◌, ◌*◌, ◌≤◌}
use native.Mathlib.Omega.{arith}
use native.Mathlib.Nat.{mul-le-mul, le_trans}
use lib.ListN.{length, length-append, length-map}
use Rattle.text.specs.Bytes.{equal}
use Rattle.engine.specs.Sizes.{records_max, advertisements_max, subscriptions_max, addresses_max, sources_max}
use Rattle.engine.specs.Target.{ssdp_all}
use Rattle.engine.specs.Held.{Text, Advertisement}
use Rattle.engine.specs.Records.{SearchFrom, flat, any_all, searches_of, notify, notify_on, search_on, refresh_on, all_from, is_due, reply_records, due_records, timeout_on}
use Rattle.engine.specs.declared.advertisement.ResponseNeeded.{ResponseNeeded}
use Rattle.engine.specs.declared.advertisement.ResponseNeeded.TheVariants.{None, Multicast, Unicast}
use Rattle.engine.proofs.Flat.{flat-each, flat-most}

-- the searches of a refresh are no more than the subscriptions
pub searches-most : (ts : List Text) → length (searches_of ts) ≤ length ts
unfolding searches_of any_all
searches-most [] = omega arith
searches-most (t ∷ ts) = go (equal t ssdp_all || any_all ts)
  where
    go : (w : Bool) → length (cond w (ssdp_all ∷ []) (t ∷ ts)) ≤ length (t ∷ ts)
    go true = omega arith
    go false = omega arith

-- `refresh`: advertisements plus searches, times addresses
pub refresh-count : (up : List ℕ) (ts : List Text) (as' : List Advertisement)
    → length (refresh_on up ts as') ≡ length up * length as' + length up * length (searches_of ts)
refresh-count up ts as' =
    length-append (flat (notify_on up) as') (flat (search_on up) (searches_of ts))
    ∙ omega (
      arith,
      flat-each (notify_on up) (length up) (λ a. length-map up _) as',
      flat-each (search_on up) (length up) (λ t. length-map up _) (searches_of ts),
    )

-- to one address
pub all-count : (ts : List Text) (as' : List Advertisement) (source : ℕ) → length (all_from ts as' source) ≡ length (searches_of ts) + length as'
all-count ts as' source =
    length-append (map (SearchFrom source) (searches_of ts)) (map (λ a. notify a source) as')
    ∙ omega (arith, length-map (searches_of ts) (SearchFrom source), length-map as' (λ a. notify a source))

-- where a test fails, nothing
pub cond-most : {A : Type 0} (w : Bool) (l : List A) (m : ℕ) → length l ≤ m → length (cond w l []) ≤ m
cond-most true l m h = h
cond-most false l m h = omega arith

-- a reply that is due
pub due-most : (m time : ℕ) (up : List ℕ) (a : Advertisement) → 1 ≤ m → length up ≤ m → length (due_records time up a) ≤ m
unfolding due_records
due-most m time up a one h = cond-most (is_due time a.needed) (reply_records up a a.needed) m (go a.needed)
  where
    go : (n : ResponseNeeded) → length (reply_records up a n) ≤ m
    go None = omega arith
    go (Multicast due) = omega (arith, length-map up (notify a))
    go (Unicast due sender receiver) = omega arith

-- ---- the runs over tables of document 01's sizes
module _ (ts : List Text) (as' : List Advertisement) (few : length ts ≤ subscriptions_max) (some : length as' ≤ advertisements_max) where
  pub all_most : (source : ℕ) → length (all_from ts as' source) ≤ subscriptions_max + advertisements_max
  all_most source = omega (arith, all-count ts as' source, searches-most ts)

  pub turn-most : (addresses : List ℕ) → length addresses ≤ addresses_max → length (flat (all_from ts as') addresses) ≤ (subscriptions_max + advertisements_max) * addresses_max
  turn-most addresses h = omega (arith, flat-most (all_from ts as') (subscriptions_max + advertisements_max) all_most addresses)

  module _ (up : List ℕ) (addresses : length up ≤ sources_max) where
    pub refresh-most : length (refresh_on up ts as') ≤ sources_max * (advertisements_max + subscriptions_max)
    refresh-most = omega (arith, refresh-count up ts as', mul-le-mul addresses some, mul-le-mul addresses (le_trans (searches-most ts) few))

    pub timeout_most : (due : Bool) (time : ℕ) → length (timeout_on up due time ts as') ≤ records_max
    timeout_most due time =
        omega (
          arith,
          length-append (cond due (refresh_on up ts as') []) (flat (due_records time up) as'),
          cond-most due (refresh_on up ts as') (sources_max * (advertisements_max + subscriptions_max)) refresh-most,
          flat-most (due_records time up) sources_max (λ a. due-most sources_max time up a (omega arith) addresses) as',
        )
