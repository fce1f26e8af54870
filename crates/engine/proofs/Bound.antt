-- No call sends more than `records_max` records (document 01, 'Outbox'), whatever it is, on tables that are within their sizes:
-- a salvo of all names and searches on all addresses, and a reply to the group for every name on as many.
use mathlib.Core.Path.{◌≡◌, ap}
use mathlib.Core.Bool.{Bool, true, false, cond, ◌&&◌}
use mathlib.Core.List.{List, [], ◌∷◌, map}
use Prim.Native.Nat.{ℕ, zero, suc, ◌*◌, ◌≤◌}
use native.Mathlib.Omega.{arith}
use borrow.Author.Tests.{ltb-false}
use lib.Dec.{ltb}
use lib.ListN.{length, take, drop, length-append, length-map}
use Rattle.engine.specs.Sizes.{advertisements_max, subscriptions_max, links_max, addresses_max, sources_max, records_max}
use Rattle.engine.specs.Table.{entry_of}
use Rattle.engine.specs.Held.{Text, Link, Context, Advertisement, advertised, by_index}
use Rattle.engine.specs.Calls.{Call, NewLink, DeletedLink, NewAddress, DeletedAddress, Subscribe, Advertise, Deadvertise, Refresh, Datagram, Timeout, ResetTimer}
use Rattle.engine.specs.Links.{addresses_of, any_up, up_addresses, address_of, link_at, stores}
use Rattle.engine.specs.Records.{Record, SearchFrom, NotifyFrom, flat, byebye_on, all_from, refresh_records, address_records, salvo_due, turns_up, records}
use Rattle.engine.specs.Layout.{Room}
use Rattle.engine.specs.Need.{need}
use Rattle.engine.specs.Engine.{names_of}
use Rattle.engine.specs.Rows.{rows}
use Rattle.engine.specs.Arrays.{link_width, link_in, link_rows, link_count, links_in, Engine, held}
use Rattle.engine.proofs.Members.{Each, nobody, both}
use Rattle.engine.proofs.Flat.{flat-most}
use Rattle.engine.proofs.TableRows.{lines-length}
use Rattle.engine.proofs.LinkRows.{addresses-few}
use Rattle.engine.proofs.NameRows.{names-length}
use Rattle.engine.proofs.TableRuns.{searches-length}
use Rattle.engine.proofs.Counting.{cond-most, all_most, turn-most, refresh-most, timeout_most}
use Rattle.engine.proofs.RecordCount.{need-is}

-- tables within their sizes
pub record Few (x : Context) (as' : List Advertisement) : Type 0 where
  pub names : length as' ≤ advertisements_max
  pub subscriptions : length x.subscriptions ≤ subscriptions_max
  pub links : length x.links ≤ links_max
  pub addresses : Each (λ l. length l.addresses ≤ addresses_max) x.links

-- ---- addresses
pub up-few : (ls : List Link) → Each (λ l. length l.addresses ≤ addresses_max) ls → length (up_addresses ls) ≤ addresses_max * length ls
unfolding up_addresses
up-few [] h = omega arith
up-few (l ∷ ls) (both p h) =
    omega (arith, length-append (cond l.up l.addresses []) (up_addresses ls), cond-most l.up l.addresses addresses_max p, up-few ls h)

-- those of one link
pub at-few : (index : ℕ) (ls : List Link) → Each (λ l. length l.addresses ≤ addresses_max) ls → length (addresses_of (link_at index ls)) ≤ addresses_max
unfolding entry_of addresses_of
at-few index [] h = omega arith
at-few index (l ∷ ls) (both p h) = go (by_index.below l.index index) (by_index.same l.index index) (at-few index ls h)
  where
    go : (b c : Bool) → length (addresses_of (link_at index ls)) ≤ addresses_max → length (addresses_of (cond b (link_at index ls) (cond c (l ∷ []) []))) ≤ addresses_max
    go true c k = k
    go false true k = omega (arith, length-append l.addresses [])
    go false false k = omega arith

-- a name has one entry at most
entry-few : (name : Text) (l : List Advertisement) → length (entry_of advertised name l) ≤ 1
unfolding entry_of
entry-few name [] = omega arith
entry-few name (a ∷ l) = go (advertised.below a.name name) (entry-few name l)
  where
    go : (below : Bool) → length (entry_of advertised name l) ≤ 1
        → length (cond below (entry_of advertised name l) (cond (advertised.same a.name name) (a ∷ []) [])) ≤ 1
    go true h = h
    go false h = cond-most (advertised.same a.name name) (a ∷ []) 1 (omega arith)

-- ---- a call
module _ (x : Context) (as' : List Advertisement) (few : Few x as') where
  abbrev up : List ℕ
  up = up_addresses x.links

  up-most : length up ≤ sources_max
  up-most = omega (arith, up-few x.links few.addresses, few.links)

  on-most : (f : ℕ → Record) → length (map f up) ≤ sources_max
  on-most f = omega (arith, length-map up f, up-most)

  pub records-bound : (c : Call) → length (records x as' c) ≤ records_max
  unfolding records refresh_records address_records
  records-bound (NewLink index flags outcome room) =
      let at = addresses_of (link_at index x.links) in
      let most = turn-most x.subscriptions as' few.subscriptions few.names at (at-few index x.links few.addresses) in
      cond-most (turns_up index flags x.links) (flat (all_from x.subscriptions as') at) records_max (omega arith)
  records-bound (DeletedLink index outcome) = omega arith
  records-bound (NewAddress index address room) =
      let most = all_most x.subscriptions as' few.subscriptions few.names (address_of address) in
      cond-most (stores index address x.links && any_up (link_at index x.links)) (all_from x.subscriptions as' (address_of address)) records_max (omega arith)
  records-bound (DeletedAddress index address) = omega arith
  records-bound (Subscribe service room) = omega (arith, on-most (λ source. SearchFrom source service))
  records-bound (Advertise name service location room) = omega (arith, on-most (λ source. NotifyFrom source service name location))
  records-bound (Deadvertise name room) =
      omega (arith, flat-most (byebye_on up) sources_max (λ a. on-most _) (entry_of advertised name as'), entry-few name as')
  records-bound (Refresh room) = omega (arith, refresh-most x.subscriptions as' few.subscriptions few.names up up-most)
  records-bound (Datagram now sender receiver s) = omega arith
  records-bound (Timeout now room) = timeout_most x.subscriptions as' few.subscriptions few.names up up-most (salvo_due x now) now
  records-bound (ResetTimer now) = omega arith

-- ---- the tables in the lent arrays are within their sizes, whatever the arrays hold
links-few : (n : ℕ) (links : List ℕ) → Each (λ l. length l.addresses ≤ addresses_max) (link_rows n links)
unfolding rows
links-few zero links = nobody
links-few (suc n) links = both (addresses-few (take link_width links)) (links-few n (drop link_width links))

pub held-few : (t : Engine) → Few (held t).context (held t).advertisements
unfolding held links_in
held-few t = record {
  names = omega (arith, names-length t.head t.numbers t.texts);
  subscriptions = omega (arith, searches-length t.head t.searches);
  links = omega (arith, lines-length link_width link_in (link_count t.head) t.links);
  addresses = links-few (link_count t.head) t.links;
}

-- ---- the outbox of an accepted call has room for its records
pub enough : (t : Engine) (c : Call) (outbox : List ℕ) {rs : List Record} → ltb (length outbox) (need (held t).context (names_of (held t).advertisements) c) ≡ false →
    rs ≡ records (held t).context (held t).advertisements c → Room outbox 0 rs
enough t c outbox e p = omega (arith, ltb-false (length outbox) (need (held t).context (names_of (held t).advertisements) c) e, need-is (held t).context (held t).advertisements c, ap length p)
