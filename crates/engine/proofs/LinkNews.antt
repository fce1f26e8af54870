-- What the kernel's news makes of the links, as the code has it: the link of the index is looked up, changed and entered again.
use mathlib.Core.Path.{◌≡◌, refl, sym, ◌∙◌, ap, subst}
use mathlib.Core.Bool.{Bool, true, false, cond, not, ◌&&◌, ◌||◌, true≢false}
use mathlib.Core.List.{List, [], ◌∷◌, ◌++◌}
use Prim.Native.Nat.{ℕ, zero, suc, ◌≤◌}
use native.Mathlib.Omega.{arith}
use lib.Dec.{eqb, leb}
use lib.ListN.{length}
use Rattle.std.proofs.Common.{Option, None, Some, IfSome}
use Rattle.std.specs.Option.{is_some}
use Rattle.engine.specs.Sizes.{links_max, addresses_max}
use Rattle.engine.specs.Flags.{is_up, is_multicast}
use Rattle.engine.specs.Table.{known, enter}
use Rattle.engine.specs.Held.{Link, link_of, by_index}
use Rattle.engine.specs.Links.{link_at, any_up, addresses_of, contains, last_into, is_v4, address_of, stores, link_with, link_news, address_news, address_gone}
use Rattle.engine.specs.Records.{turns_up}
use Rattle.engine.specs.Refusals.{new_multicast}
use Rattle.engine.specs.LinkTable.{LinkIs, LinkFound}
use Rattle.engine.specs.declared.interface.Interface.{Interface}
use Rattle.engine.proofs.Tables as tables

-- ---- tests
and_true : (b : Bool) → b ≡ (b && true)
and_true true = refl
and_true false = refl

and_false : (b : Bool) → false ≡ (b && false)
and_false true = refl
and_false false = refl

full_is : (n : ℕ) → n ≤ addresses_max → eqb n addresses_max ≡ leb addresses_max n
full_is zero h = refl
full_is (suc zero) h = refl
full_is (suc (suc zero)) h = refl
full_is (suc (suc (suc n))) h = absurd (omega arith)

old-or-full : (s more : Bool) → (not s || more) ≡ true → (s && more) ≡ false → s ≡ false
old-or-full true more e room = absurd (true≢false (sym e ∙ room))
old-or-full false more e room = refl

pub still-new : (n f : Bool) → (not n || f) ≡ false → n ≡ true
still-new true f e = refl
still-new false f e = absurd (true≢false e)

-- ---- what was looked up
module _ {index : ℕ} {ls : List Link} {r : Option Interface} (h : LinkFound index ls r) where
  pub unheld : r ≡ None → known by_index index ls ≡ false
  unheld e = sym h.known ∙ ap is_some e

  pub no_link : r ≡ None → link_at index ls ≡ []
  no_link e = tables.entry-unknown by_index index ls (unheld e)

  module _ {k : Interface} (e : r ≡ Some k) where
    pub held : known by_index index ls ≡ true
    held = sym h.known ∙ ap is_some e

    pub link : LinkIs index ls k
    link = subst (λ (o : Option Interface). IfSome o (LinkIs index ls)) e h.link

    -- ---- tests
    pub turns : {m u : Bool} (flags : ℕ) → m ≡ is_multicast flags → u ≡ is_up flags → (m && not k.up && u) ≡ turns_up index flags ls
    turns flags m u =
        let here = m ∙ and_true (is_multicast flags) ∙ ap (λ b. is_multicast flags && b) (sym held) in
        λ i. here i && not (link.up i) && u i

    pub stored : {s : Bool} (b : List ℕ) → s ≡ (is_v4 b && not (contains (address_of b) k.addresses.items)) → s ≡ stores index b ls
    stored b s =
        let here = and_true (is_v4 b) ∙ ap (λ t. is_v4 b && t) (sym held) in
        s ∙ λ i. here i && not (contains (address_of b) (link.addresses i))

    -- no room for an address that is to be stored
    pub not_stored : {n f : Bool} (b : List ℕ) → n ≡ stores index b ls → f ≡ eqb (length k.addresses.items) addresses_max → length k.addresses.items ≤ addresses_max → (not n || f) ≡ true
        → (stores index b ls && leb addresses_max (length (addresses_of (link_at index ls)))) ≡ false → stores index b ls ≡ false
    not_stored b n f few e room =
        let full = f ∙ full_is (length k.addresses.items) few ∙ ap (λ l. leb addresses_max (length l)) link.addresses in
        old-or-full (stores index b ls) (leb addresses_max (length (addresses_of (link_at index ls)))) ((λ i. not (sym n i) || sym full i) ∙ e) room

  pub stored_none : (b : List ℕ) → r ≡ None → false ≡ stores index b ls
  stored_none b e =
      let here = and_false (is_v4 b) ∙ ap (λ t. is_v4 b && t) (sym (unheld e)) in
      λ i. here i && not (contains (address_of b) (addresses_of (link_at index ls)))

-- what `entered` promises of a link k: `After` holds of the links then
abbrev Entered : List Link → (List Link → Type 0) → Interface → Type 0
Entered ls After k = (not (known by_index k.index ls) && leb links_max (length ls)) ≡ false → After (enter by_index (link_of k) ls)

module _ (After : List Link → Type 0) (index : ℕ) (ls : List Link) (k : Interface) (entered : Entered ls After k) where
  -- a link of the index, which is held or for which there is room
  enters : {up : Bool} {l : List ℕ} → link_of k ≡ link_with index up l → (not (known by_index index ls) && leb links_max (length ls)) ≡ false
      → After (enter by_index (link_with index up l) ls)
  unfolding link_of
  enters e room =
      subst After (ap (λ (x : Link). enter by_index x ls) e) (entered (ap (λ (x : Link). not (known by_index x.index ls) && leb links_max (length ls)) e ∙ room))

  pub link_stored : (flags : ℕ) → is_multicast flags ≡ true → link_of k ≡ link_with index (is_up flags) (addresses_of (link_at index ls))
      → (new_multicast index flags ls && leb links_max (length ls)) ≡ false → After (link_news index flags ls)
  unfolding link_news
  link_stored flags m e room = rw m (enters e (rw m at room))

  module _ (here : known by_index index ls ≡ true) where
    pub address-stored : (b : List ℕ) → stores index b ls ≡ true → link_of k ≡ link_with index (any_up (link_at index ls)) (addresses_of (link_at index ls) ++ (address_of b ∷ []))
        → After (address_news index b ls)
    unfolding address_news
    address-stored b s e = rw s (enters e (rw here))

    pub address-gone : (b : List ℕ) → is_v4 b ≡ true → link_of k ≡ link_with index (any_up (link_at index ls)) (last_into (address_of b) (addresses_of (link_at index ls)))
        → After (address_gone index b ls)
    unfolding address_gone
    address-gone b v e = rw (v, here) (enters e (rw here))

-- ---- news that changes nothing
module _ (index : ℕ) (ls : List Link) where
  pub link_quiet : (flags : ℕ) → is_multicast flags ≡ false → ls ≡ link_news index flags ls
  unfolding link_news
  link_quiet flags m = rw m

  pub address-quiet : (b : List ℕ) → stores index b ls ≡ false → ls ≡ address_news index b ls
  unfolding address_news
  address-quiet b s = rw s

  pub gone-none : (b : List ℕ) → known by_index index ls ≡ false → ls ≡ address_gone index b ls
  unfolding address_gone
  gone-none b e =
      let here = and_false (is_v4 b) ∙ ap (λ t. is_v4 b && t) (sym e) in
      ap (λ t. cond t (enter by_index (link_with index (any_up (link_at index ls)) (last_into (address_of b) (addresses_of (link_at index ls)))) ls) ls) here

  pub gone-other : (b : List ℕ) → is_v4 b ≡ false → ls ≡ address_gone index b ls
  unfolding address_gone
  gone-other b e = rw e
