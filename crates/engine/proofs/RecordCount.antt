-- The formula of specs/Need.antt is the number of the records that a call writes, whatever is held and whatever the call.
use mathlib.Core.Path.{◌≡◌, refl, sym, ◌∙◌, ap}
use mathlib.Core.Bool.{Bool, true, false, cond, ◌&&◌}
use mathlib.Core.List.{List, [], ◌∷◌, map}
use Prim.Native.Nat.{ℕ, ◌+◌, ◌*◌}
use native.Mathlib.Omega.{arith}
use native.Mathlib.Nat.{mul_comm, add-mul}
use lib.ListN.{length, length-append, length-map}
use Rattle.engine.specs.Sizes.{record_size}
use Rattle.engine.specs.Target.{ssdp_all}
use Rattle.engine.specs.Table.{known, entry_of}
use Rattle.engine.specs.Held.{Text, Context, Advertisement, advertised}
use Rattle.engine.specs.Calls.{Call, NewLink, DeletedLink, NewAddress, DeletedAddress, Subscribe, Advertise, Deadvertise, Refresh, Datagram, Timeout, ResetTimer}
use Rattle.engine.specs.Links.{addresses_of, any_up, up_addresses, address_of, link_at, stores}
use Rattle.engine.specs.Records.{Record, SearchFrom, NotifyFrom, flat, any_all, searches_of, notify, byebye_on, all_from, refresh_records, address_records, is_due, reply_records, due_records, salvo_due, turns_up, records}
use Rattle.engine.specs.Replies.{sum_of, is_alone, is_group, alone_at, group_at}
use Rattle.engine.specs.Need.{searches_count, record_count, need}
use Rattle.engine.specs.Engine.{names_of}
use Rattle.engine.specs.declared.advertisement.ResponseNeeded.{ResponseNeeded}
use Rattle.engine.specs.declared.advertisement.ResponseNeeded.TheVariants.{None, Multicast, Unicast}
use Rattle.engine.proofs.Flat.{flat-each}
use Rattle.engine.proofs.Counting.{refresh-count, all-count}

-- one search where any subscription is for all, else one for each
pub searches-count : (ts : List Text) → length (searches_of ts) ≡ searches_count ts
unfolding searches_of searches_count
searches-count ts = go (any_all ts)
  where
    go : (all : Bool) → length (cond all (ssdp_all ∷ []) ts) ≡ cond all 1 (length ts)
    go true = refl
    go false = refl

pub searches-all : (ts : List Text) → any_all ts ≡ true → searches_count ts ≡ 1
unfolding searches_count
searches-all ts e = rw e

pub searches-each : (ts : List Text) → any_all ts ≡ false → searches_count ts ≡ length ts
unfolding searches_count
searches-each ts e = rw e

-- a product by a test
times_if : (b : Bool) (n : ℕ) → n * cond b 1 0 ≡ cond b n 0
times_if true n = omega arith
times_if false n = omega arith

-- records by a test
if_count : (b : Bool) (rs : List Record) (n : ℕ) → length rs ≡ n → length (cond b rs []) ≡ cond b n 0
if_count true rs n e = e
if_count false rs n e = refl

-- a held name has one entry, another none
entry-count : (name : Text) (as' : List Advertisement) → length (entry_of advertised name as') ≡ cond (known advertised name as') 1 0
unfolding entry_of known
entry-count name [] = refl
entry-count name (a ∷ as') = go (advertised.below a.name name) (advertised.same a.name name) (entry-count name as')
  where
    go : (below same : Bool) → length (entry_of advertised name as') ≡ cond (known advertised name as') 1 0 →
        length (cond below (entry_of advertised name as') (cond same (a ∷ []) [])) ≡ cond (cond below (known advertised name as') same) 1 0
    go true same h = h
    go false true h = refl
    go false false h = refl

-- the replies due: a lone one is one record, one to the group a record for each address
module _ (time : ℕ) (up : List ℕ) where
  reply-count : (a : Advertisement) (n : ResponseNeeded) → length (reply_records up a n) ≡ is_alone n + is_group n * length up
  reply-count a None = omega arith
  reply-count a (Multicast due) = length-map up (notify a) ∙ omega arith
  reply-count a (Unicast due sender receiver) = omega arith

  due-count : (a : Advertisement) → length (due_records time up a) ≡ alone_at time a + group_at time a * length up
  unfolding due_records alone_at group_at
  due-count a = go (is_due time a.needed) (reply-count a a.needed)
    where
      go : (b : Bool) → length (reply_records up a a.needed) ≡ is_alone a.needed + is_group a.needed * length up →
          length (cond b (reply_records up a a.needed) []) ≡ cond b (is_alone a.needed) 0 + cond b (is_group a.needed) 0 * length up
      go true h = h
      go false h = omega arith

  dues_count : (as' : List Advertisement) → length (flat (due_records time up) as') ≡ sum_of (alone_at time) as' + sum_of (group_at time) as' * length up
  unfolding flat sum_of
  dues_count [] = omega arith
  dues_count (a ∷ as') =
      length-append (due_records time up a) (flat (due_records time up) as')
      ∙ omega (arith, due-count a, dues_count as', add-mul (group_at time a) (sum_of (group_at time) as') (length up))

-- ---- a call
module _ (x : Context) (as' : List Advertisement) where
  abbrev up : List ℕ
  up = up_addresses x.links

  on-count : (f : ℕ → Record) → length (map f up) ≡ length up
  on-count f = length-map up f

  from-count : (source : ℕ) → length (all_from x.subscriptions as' source) ≡ length as' + searches_count x.subscriptions
  from-count source = omega (arith, all-count x.subscriptions as' source, searches-count x.subscriptions)

  refresh-is : length (refresh_records x as') ≡ (length as' + searches_count x.subscriptions) * length up
  unfolding refresh_records
  refresh-is =
      refresh-count up x.subscriptions as'
      ∙ omega (arith, ap (λ (k : ℕ). length up * k) (searches-count x.subscriptions), mul_comm (length up) (length as'), mul_comm (length up) (searches_count x.subscriptions), add-mul (length as') (searches_count x.subscriptions) (length up))

  pub count-is : (c : Call) → length (records x as' c) ≡ record_count x (names_of as') c
  unfolding records address_records record_count names_of
  count-is (NewLink index flags outcome room) =
      let at = addresses_of (link_at index x.links) in
      if_count (turns_up index flags x.links) _ _
      (flat-each (all_from x.subscriptions as') _ from-count at)
  count-is (DeletedLink index outcome) = refl
  count-is (NewAddress index address room) =
      if_count (stores index address x.links && any_up (link_at index x.links)) _ _ (from-count (address_of address))
  count-is (DeletedAddress index address) = refl
  count-is (Subscribe service room) = on-count (λ source. SearchFrom source service)
  count-is (Advertise name service location room) = on-count (λ source. NotifyFrom source service name location)
  count-is (Deadvertise name room) =
      flat-each (byebye_on up) (length up) (λ a. on-count _) (entry_of advertised name as')
      ∙ ap (λ (k : ℕ). length up * k) (entry-count name as') ∙ times_if (known advertised name as') (length up)
  count-is (Refresh room) = refresh-is
  count-is (Datagram time sender receiver s) = refl
  count-is (Timeout time room) =
      length-append (cond (salvo_due x time) (refresh_records x as') []) (flat (due_records time up) as')
      ∙ omega (arith, if_count (salvo_due x time) (refresh_records x as') _ refresh-is, dues_count time up as')
  count-is (ResetTimer time) = refl

  -- and the room that refusal 2 asks for is that of the records
  pub need-is : (c : Call) → need x (names_of as') c ≡ record_size * length (records x as' c)
  unfolding need
  need-is c = ap (λ (k : ℕ). record_size * k) (sym (count-is c))
