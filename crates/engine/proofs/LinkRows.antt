-- Laws of the table of links: a row of the array read and written, the rows replaced, put in and taken out, and the table through its spots.
use mathlib.Core.Path.{◌≡◌, refl, sym, ◌∙◌, ap}
use mathlib.Core.Bool.{Bool, true, false, not, ◌&&◌, ◌||◌, true≢false}
use mathlib.Core.List.{List, [], ◌∷◌, ◌++◌, map, append-nil}
use Prim.Native.Nat.{ℕ, suc, min, ◌+◌, ◌*◌, ◌-◌, ◌≤◌, ◌<◌}
use native.Mathlib.Nat.{mod-eq_of_lt}
use native.Mathlib.Numerals.{add-one}
use native.Mathlib.Omega.{arith}
use borrow.Author.Tests.{eqb-true, le-leb}
use lib.Dec.{eqb, leb}
use Rattle.std.proofs.lemmas.List.{take-set-le, take_more_set, drop-set-add}
use lib.ListN.{length, length-take, take, drop, set, get_or, replicate, length-replicate, length-set, length-drop, length-map, drop_of_length-le}
use lib.Seq.{take_all, take_at, drop_at, length-take-le, take-take, take-suc, get_or-take, get_or-drop, drop-cons}
use Rattle.std.proofs.Math.Facts.{Fits-lt-pow}
use mir.Syntax.{w32}
use mir.Val.{Fits, bool_byte}
use Rattle.std.proofs.Common.{None, Some, Ok, Err}
use borrow.Rule.Slice.PartMut.{put_mid}
use Rattle.engine.specs.Sizes.{links_max, addresses_max}
use Rattle.engine.specs.Table.{rank, known, entry_of, enter, leave}
use Rattle.engine.specs.Slots.{insert_at, remove_at}
use Rattle.std.specs.List.{copy_within}
use Rattle.engine.specs.Spot.{Spotted}
use Rattle.engine.specs.Held.{Link, link_of, by_index}
use Rattle.engine.specs.Links.{any_up, addresses_of}
use Rattle.engine.specs.LinkTable.{LinkFound}
use Rattle.engine.specs.Arrays.{low32, first_address, link_width, link_numbers, link_in, link_rows, link_at_row, link_count, links_in}
use Rattle.engine.specs.Changes.{LinkFilled, LinksAfter}
use Rattle.engine.specs.declared.interface.Interface.{Interface}
use Rattle.engine.proofs.Slots.{cut}
use Rattle.engine.proofs.Tables as tables
use Rattle.engine.proofs.TableRows as rows

-- ---- the addresses of a row
pub addresses-read : (r out : List ℕ) (n k i : ℕ) → n ≡ min (get_or r 2 0) addresses_max → k ≡ n → length (take k (drop first_address r)) ≤ i
    → out ≡ map low32 (take i (take k (drop first_address r))) → out ≡ (link_in r).addresses
unfolding link_in
addresses-read r out n k i e f h o =
    o
    ∙ ap (map low32)
    (take_all i (take k (drop first_address r)) h ∙ ap (λ (m : ℕ). take m (drop first_address r)) (f ∙ e) ∙ cut (get_or r 2 0) addresses_max (drop first_address r))

pub addresses-few : (r : List ℕ) → length (link_in r).addresses ≤ addresses_max
unfolding link_in
addresses-few r =
    let held = take addresses_max (drop first_address r) in
    omega (arith, length-map (take (get_or r 2 0) held) low32, length-take (get_or r 2 0) held, length-take addresses_max (drop first_address r))

-- ---- a row as a link
one-back : (b : Bool) → not (eqb (bool_byte b) 0) ≡ b
one-back true = refl
one-back false = refl

-- ---- a row with the first i addresses written
all-narrow : (l : List ℕ) → ((i : ℕ) → Fits w32 (get_or l i 0)) → map low32 l ≡ l
all-narrow [] narrow = refl
all-narrow (x ∷ l) narrow = λ j. (let small : x < 4294967296 = Fits-lt-pow (narrow 0) in mod-eq_of_lt small) j ∷ all-narrow l (λ i. narrow (suc i)) j

module _ (start items : List ℕ) where
  pub record Written (i : ℕ) (r : List ℕ) : Type 0 where
    pub size : length r ≡ link_width
    pub front : take first_address r ≡ take first_address start
    pub done : take i (drop first_address r) ≡ take i items
    pub narrow : (j : ℕ) → Fits w32 (get_or items j 0)

  pub written-turn : {i x : ℕ} {r : List ℕ} → length items ≤ addresses_max → i < length items → x ≡ get_or items i 0 → Written i r → Written (i + 1) (set r (first_address + i) x)
  written-turn {i} {x} {r} few h e w = record {
    size = length-set r (first_address + i) x ∙ w.size;
    front = take-set-le first_address r (first_address + i) x (omega arith) ∙ w.front;
    done =
        ap (take (i + 1)) (drop-set-add first_address r i x)
        ∙ take_more_set (drop first_address r) i x (omega (arith, w.size, length-drop first_address r))
        ∙ (λ j. w.done j ++ (e j ∷ []))
        ∙ sym (take-suc items i 0 h)
        ∙ ap (λ (k : ℕ). take k items) (sym (add-one i));
    narrow = w.narrow;
  }

pub link_written : (q items : List ℕ) {s : List ℕ} (k : Interface) (i : ℕ) → items ≡ k.addresses.items → length items ≤ addresses_max → k.index < 4294967296
    → take first_address s ≡ k.index ∷ bool_byte k.up ∷ length items ∷ [] → i ≡ length items → Written s items i q → link_in q ≡ link_of k
unfolding link_of link_in
link_written q items {s} k i same few index start e w =
    let n = length items in
    let f : take first_address q ≡ k.index ∷ bool_byte k.up ∷ n ∷ [] = w.front ∙ start in
    let at : (i : ℕ) → i < first_address → get_or q i 0 ≡ get_or (k.index ∷ bool_byte k.up ∷ n ∷ []) i 0 =
    λ i l. sym (get_or-take first_address q i 0 l) ∙ ap (λ (t : List ℕ). get_or t i 0) f
    in
    let all : take n (drop first_address q) ≡ items = ap (λ (m : ℕ). take m (drop first_address q)) (sym e) ∙ w.done ∙ take_all i items (omega arith) in
    let a =
    ap (map low32) ((λ j. take (at 2 (omega arith) j) (take addresses_max (drop first_address q))) ∙ take-take n addresses_max (drop first_address q) few ∙ all)
    ∙ all-narrow items w.narrow ∙ same
    in
    λ j. record {
      index = (ap low32 (at 0 (omega arith)) ∙ mod-eq_of_lt index) j;
      up = (ap (λ (m : ℕ). not (eqb m 0)) (at 1 (omega arith)) ∙ one-back k.up) j;
      addresses = a j;
    }

pub first-three : (r : List ℕ) (x y z : ℕ) → length r ≡ link_width → take first_address (set (set (set r 0 x) 1 y) 2 z) ≡ x ∷ y ∷ z ∷ []
first-three [] x y z h = absurd (omega arith)
first-three (_ ∷ []) x y z h = absurd (omega arith)
first-three (_ ∷ _ ∷ []) x y z h = absurd (omega arith)
first-three (_ ∷ _ ∷ _ ∷ l) x y z h = refl

-- ---- row i, as a part of the array
pub part-is : (a w : ℕ) (l : List ℕ) → take ((a + w) - a) (drop a l) ≡ take w (drop a l)
part-is a w l = let e : (a + w) - a ≡ w = omega arith in ap (λ (k : ℕ). take k (drop a l)) e

-- row i is filled, where zeros were written over it before
pub over-zeros : (i : ℕ) {a : Link} {u zeros l' : List ℕ} {k m : ℕ} → link_width * i ≤ length u → k ≡ link_width → m ≡ link_width → zeros ≡ replicate m 0
    → LinkFilled i a (put_mid (link_width * i) k u zeros) l' → LinkFilled i a u l'
over-zeros i {a} {u} {zeros} {l'} {k} {m} h e f g t =
    let at = link_width * i in
    let rest = drop k (drop at u) in
    let front : length (take at u) ≡ at = length-take-le at u h in
    let wide : length zeros ≡ link_width = ap length g ∙ length-replicate m 0 ∙ f in
    let before : take at (put_mid at k u zeros) ≡ take at u = take_at (take at u) (zeros ++ rest) at front in
    let behind : drop link_width (drop at (put_mid at k u zeros)) ≡ drop link_width (drop at u) =
    ap (drop link_width) (drop_at (take at u) (zeros ++ rest) at front) ∙ drop_at zeros rest link_width wide ∙ ap (λ (j : ℕ). drop j (drop at u)) e
    in
    record { row = t.row; size = t.size; entry = t.entry; all = t.all ∙ λ j. before j ++ (t.row ++ behind j) }

module _ (n i : ℕ) (l : List ℕ) (size : length l ≡ link_numbers) where
  pub put-over : {a : Link} {l' : List ℕ} → i < n → n ≤ links_max → LinkFilled i a l l' → link_rows n l' ≡ set (link_rows n l) i a
  put-over h g f = rows.lines-replace link_width link_in n i l f.row h (omega arith) f.size f.all ∙ ap (set (link_rows n l) i) f.entry

  pub put_in : {a : Link} {u l' : List ℕ} → i ≤ n → n < links_max → u ≡ copy_within l (link_width * i) (link_width * n) (link_width * i + link_width) → LinkFilled i a u l'
      → link_rows (suc n) l' ≡ insert_at i a (link_rows n l)
  put_in h g m f =
      rows.lines-insert link_width link_in n i l f.row h (omega arith) f.size m f.all ∙ ap (λ (x : Link). insert_at i x (link_rows n l)) f.entry

  pub taken_out : {l' : List ℕ} → i < n → n ≤ links_max → l' ≡ copy_within l (link_width * i + link_width) (link_width * n) (link_width * i)
      → link_rows (n - 1) l' ≡ remove_at i (link_rows n l)
  taken_out h g m = rows.lines-remove link_width link_in n i l h (omega arith) m

-- the index of row i, by its place in the array
pub index-at : (i : ℕ) (l : List ℕ) → low32 (get_or l (link_width * i + 0) 0) ≡ (link_at_row i l).index
unfolding link_in
index-at i l = sym (ap low32 (get_or-take link_width (drop (link_width * i) l) 0 0 (omega arith) ∙ get_or-drop (link_width * i) l 0 0))

-- ---- the table: its size, and what is left of it from an index on
module _ (head links : List ℕ) where
  pub links-length : length (links_in head links) ≡ link_count head
  unfolding links_in
  links-length = rows.lines-length link_width link_in (link_count head) links

  pub row_is : (i : ℕ) (d : Link) → i < link_count head → get_or (links_in head links) i d ≡ link_at_row i links
  unfolding links_in
  row_is i d h = rows.lines_at link_width link_in (link_count head) i links d h

  pub next-is : (i : ℕ) → i < link_count head → drop i (links_in head links) ≡ link_at_row i links ∷ drop (i + 1) (links_in head links)
  next-is i h =
      let l = links_in head links in
      let a = link_at_row i links in
      drop-cons l i a (omega (arith, links-length))
      ∙ (λ j. row_is i a h j ∷ drop (sym (add-one i) j) l)

  pub none_left : (i : ℕ) → link_count head ≤ i → drop i (links_in head links) ≡ []
  none_left i h = drop_of_length-le (links_in head links) {i = i} (omega (arith, links-length))

  -- ---- the spot of an index
  module _ {x i : ℕ} (s : Spotted by_index x (links_in head links) (Ok i)) where
    pub spot_inside : i < link_count head
    spot_inside = omega (arith, s.at, tables.known-lt by_index x (links_in head links) (sym s.known), links-length)

    -- the link that is held there
    pub there : {k : Interface} → link_of k ≡ link_at_row i links → LinkFound x (links_in head links) (Some k)
    unfolding link_of any_up addresses_of
    there {k} a =
        let l = links_in head links in
        let h : get_or l (rank by_index x l) (link_of k) ≡ link_of k =
        ap (λ (i : ℕ). get_or l i (link_of k)) (sym s.at) ∙ row_is i (link_of k) spot_inside ∙ sym a
        in
        let h' : entry_of by_index x l ≡ link_of k ∷ [] = tables.entry_known by_index x l (link_of k) (sym s.known) ∙ ap (λ (b : Link). b ∷ []) h in
        record {
          known = s.known;
          link = record {
            same = eqb-true k.index x (ap (λ (b : Link). eqb b.index x) (sym h) ∙ tables.key-known by_index x l (link_of k) (sym s.known));
            up = sym (ap any_up h' ∙ or_false k.up);
            addresses = sym (ap addresses_of h' ∙ append-nil _);
          };
        }
      where
        or_false : (b : Bool) → (b || false) ≡ b
        or_false true = refl
        or_false false = refl

  module _ {x i : ℕ} (s : Spotted by_index x (links_in head links) (Err i)) where
    pub spot_within : i ≤ link_count head
    spot_within = omega (arith, s.at, tables.rank-le by_index x (links_in head links), links-length)

    pub nowhere : LinkFound x (links_in head links) None
    nowhere = record { known = s.known; link = tt }

  -- ---- the rows after a change: `n` is the count before
  module _ {n : ℕ} (count : n ≡ link_count head) where
    as_before : link_rows n links ≡ links_in head links
    unfolding links_in
    as_before = ap (λ (m : ℕ). link_rows m links) count

    pub unchanged : {l : List Link} → links_in head links ≡ l → LinksAfter n links l
    unchanged e = record { few = omega arith; rows = as_before ∙ e }

    module _ {x i : ℕ} where
      pub left_known : {links' : List ℕ} → Spotted by_index x (links_in head links) (Ok i) → link_rows (n - 1) links' ≡ remove_at i (link_rows n links)
          → LinksAfter (n - 1) links' (leave by_index x (links_in head links))
      left_known s e = record {
        few = omega arith;
        rows = e ∙ (λ j. remove_at (s.at j) (as_before j)) ∙ sym (tables.leave-known by_index x (links_in head links) (sym s.known));
      }

      pub left_unknown : Spotted by_index x (links_in head links) (Err i) → LinksAfter n links (leave by_index x (links_in head links))
      left_unknown s = unchanged (sym (tables.leave-unknown by_index x (links_in head links) (sym s.known)))

    module _ (k : Interface) {i : ℕ} where
      pub entered-over : {links' : List ℕ} → Spotted by_index k.index (links_in head links) (Ok i) → link_rows n links' ≡ set (link_rows n links) i (link_of k)
          → LinksAfter n links' (enter by_index (link_of k) (links_in head links))
      unfolding link_of
      entered-over s e = record {
        few = omega arith;
        rows = e ∙ (λ j. set (as_before j) (s.at j) (link_of k)) ∙ sym (tables.enter-known by_index (link_of k) (links_in head links) (sym s.known));
      }

      pub entered-new : {links' : List ℕ} → n < links_max → Spotted by_index k.index (links_in head links) (Err i) → link_rows (suc n) links' ≡ insert_at i (link_of k) (link_rows n links)
          → LinksAfter (n + 1) links' (enter by_index (link_of k) (links_in head links))
      unfolding link_of
      entered-new {links'} h s e = record {
        few = omega arith;
        rows =
            ap (λ (m : ℕ). link_rows m links') (add-one n)
            ∙ e
            ∙ (λ j. insert_at (s.at j) (link_of k) (as_before j))
            ∙ sym (tables.enter-unknown by_index (link_of k) (links_in head links) (sym s.known));
      }

      -- a table that is full has no room
      pub no_room : links_max ≤ n → Spotted by_index k.index (links_in head links) (Err i) → (not (known by_index k.index (links_in head links)) && leb links_max (length (links_in head links))) ≡ false → ⊥
      no_room h s room =
          let u = sym s.known in
          let v : leb links_max (length (links_in head links)) ≡ true = le-leb links_max (length (links_in head links)) (omega (arith, links-length)) in
          true≢false (sym (rw (u, v)) ∙ room)
