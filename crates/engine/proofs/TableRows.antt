-- Laws of rows: the entries of two lists of which the first i rows stay and something else follows; from these, a row replaced, put in and taken out.
use mathlib.Core.Path.{◌≡◌, refl, sym, ◌∙◌, ap}
use mathlib.Core.List.{List, [], ◌∷◌, ◌++◌, append_assoc, append-nil}
use Prim.Native.Nat.{ℕ, zero, suc, ◌+◌, ◌*◌, ◌-◌, ◌≤◌, ◌<◌}
use native.Mathlib.Nat.{add-zero, add-suc, zero-add, mul-zero, mul-suc, mul-add}
use native.Mathlib.Omega.{arith}
use lib.ListN.{length, take, drop, set, get_or, length-drop}
use lib.Seq.{take-add, drop-drop, take_at, drop_at, take_all, take-take, length-take-le, set_split, take-append-le}
use Rattle.std.specs.List.{copy_within}
use Rattle.engine.specs.Rows.{row, rows, lines}
use Rattle.engine.specs.Slots.{insert_at, remove_at}

-- the first row off a list of rows
module _ {A : Type 0} (v i : ℕ) (l : List A) where
  pub grown : v * suc i ≡ v + v * i
  grown = let e : v * i + v ≡ v + v * i = omega arith in mul-suc v i ∙ e

  pub none-taken : (x : List A) → take (v * 0) l ++ x ≡ x
  none-taken x = ap (λ (k : ℕ). take k l ++ x) (mul-zero v)

  pub none_dropped : drop (v * 0) l ≡ l
  none_dropped = ap (λ (k : ℕ). drop k l) (mul-zero v)

  peel-take : take (v * suc i) l ≡ take v l ++ take (v * i) (drop v l)
  peel-take = ap (λ (k : ℕ). take k l) grown ∙ take-add v (v * i) l

  pub peel-drop : drop (v * suc i) l ≡ drop (v * i) (drop v l)
  peel-drop = ap (λ (k : ℕ). drop k l) grown ∙ sym (drop-drop (v * i) v l)

  module _ (x : List A) (h : v * suc i ≤ length l) where
    peel : take (v * suc i) l ++ x ≡ take v l ++ (take (v * i) (drop v l) ++ x)
    peel = ap (λ (t : List A). t ++ x) peel-take ∙ append_assoc (take v l) (take (v * i) (drop v l)) x

    pub peel-first : take v (take (v * suc i) l ++ x) ≡ take v l
    peel-first = ap (take v) peel ∙ take_at (take v l) (take (v * i) (drop v l) ++ x) v (length-take-le v l (omega (arith, grown)))

    pub peel-rest : drop v (take (v * suc i) l ++ x) ≡ take (v * i) (drop v l) ++ x
    peel-rest = ap (drop v) peel ∙ drop_at (take v l) (take (v * i) (drop v l) ++ x) v (length-take-le v l (omega (arith, grown)))

    peel-more : v * i ≤ length (drop v l)
    peel-more = omega (arith, grown, length-drop v l)

module _ {A B C : Type 0} (v w : ℕ) (f : List A → List B → C) where
  pub rows-length : (n : ℕ) (ns : List A) (ts : List B) → length (rows v w f n ns ts) ≡ n
  unfolding rows
  rows-length zero ns ts = refl
  rows-length (suc n) ns ts = ap suc (rows-length n (drop v ns) (drop w ts))

  pub rows_at : (n i : ℕ) (ns : List A) (ts : List B) (d : C) → i < n → get_or (rows v w f n ns ts) i d ≡ f (row v i ns) (row w i ts)
  unfolding rows
  rows_at zero i ns ts d h = absurd (omega arith)
  rows_at (suc n) zero ns ts d h = sym (λ j. f (take v (none_dropped v 0 ns j)) (take w (none_dropped w 0 ts j)))
  rows_at (suc n) (suc i) ns ts d h =
      rows_at n i (drop v ns) (drop w ts) d (omega arith)
      ∙ sym (λ j. f (take v (peel-drop v i ns j)) (take w (peel-drop w i ts j)))

  -- the rows behind the first i
  pub rows_drop : (k i : ℕ) (ns : List A) (ts : List B) → rows v w f k (drop (v * i) ns) (drop (w * i) ts) ≡ drop i (rows v w f (k + i) ns ts)
  unfolding rows
  rows_drop k zero ns ts = (λ j. rows v w f (sym (add-zero k) j) (none_dropped v 0 ns j) (none_dropped w 0 ts j))
  rows_drop k (suc i) ns ts =
      (λ j. rows v w f k (peel-drop v i ns j) (peel-drop w i ts j)) ∙ rows_drop k i (drop v ns) (drop w ts)
      ∙ ap (λ (m : ℕ). drop (suc i) (rows v w f m ns ts)) (sym (add-suc k i))

  -- the first i rows, and then those of other lists
  pub rows-splice : (n k i : ℕ) (ns x : List A) (ts y : List B) → i ≤ n → v * i ≤ length ns → w * i ≤ length ts
      → rows v w f (k + i) (take (v * i) ns ++ x) (take (w * i) ts ++ y) ≡ take i (rows v w f n ns ts) ++ rows v w f k x y
  unfolding rows
  rows-splice n k zero ns x ts y h a b = (λ j. rows v w f (add-zero k j) (none-taken v 0 ns x j) (none-taken w 0 ts y j))
  rows-splice zero k (suc i) ns x ts y h a b = absurd (omega arith)
  rows-splice (suc n) k (suc i) ns x ts y h a b =
      ap (λ (m : ℕ). rows v w f m (take (v * suc i) ns ++ x) (take (w * suc i) ts ++ y)) (add-suc k i)
      ∙ (λ j. f (peel-first v i ns x a j) (peel-first w i ts y b j) ∷ rows v w f (k + i) (peel-rest v i ns x a j) (peel-rest w i ts y b j))
      ∙ ap (λ (t : List C). f (take v ns) (take w ts) ∷ t)
      (rows-splice n k i (drop v ns) x (drop w ts) y (omega arith) (peel-more v i ns x a) (peel-more w i ts y b))

  -- what stands behind the n rows does not count
  pub rows-front : (n : ℕ) (ns x : List A) (ts y : List B) → v * n ≤ length ns → w * n ≤ length ts
      → rows v w f n (take (v * n) ns ++ x) (take (w * n) ts ++ y) ≡ rows v w f n ns ts
  unfolding rows
  rows-front n ns x ts y a b =
      ap (λ (m : ℕ). rows v w f m (take (v * n) ns ++ x) (take (w * n) ts ++ y)) (sym (zero-add n))
      ∙ rows-splice n 0 n ns x ts y (omega arith) a b
      ∙ append-nil (take n (rows v w f n ns ts))
      ∙ take_all n (rows v w f n ns ts) (omega (arith, rows-length n ns ts))

  -- a row of the first list replaced: what comes back of a part that was lent
  pub rows-store : (n i : ℕ) (ns r : List A) (ts : List B) → i < n → v * i + v ≤ length ns → length r ≡ v
      → rows v w f n (take (v * i) ns ++ (r ++ drop v (drop (v * i) ns))) ts ≡ set (rows v w f n ns ts) i (f r (row w i ts))
  unfolding rows
  rows-store zero i ns r ts h g e = absurd (omega arith)
  rows-store (suc n) zero ns r ts h g e =
      ap (λ (l : List A). rows v w f (suc n) l ts)
      (none-taken v 0 ns (r ++ drop v (drop (v * 0) ns)) ∙ ap (λ (l : List A). r ++ drop v l) (none_dropped v 0 ns))
      ∙ (λ j. f (take_at r (drop v ns) v e j) (take w (sym (none_dropped w 0 ts) j)) ∷ rows v w f n (drop_at r (drop v ns) v e j) (drop w ts))
  rows-store (suc n) (suc i) ns r ts h g e =
      let m : v * suc i ≤ length ns = omega arith in
      let x = r ++ drop v (drop (v * suc i) ns) in
      (λ j. f (peel-first v i ns x m j) (take w ts) ∷ rows v w f n (peel-rest v i ns x m j) (drop w ts))
      ∙ (λ j. f (take v ns) (take w ts) ∷ rows v w f n (take (v * i) (drop v ns) ++ (r ++ drop v (peel-drop v i ns j))) (drop w ts))
      ∙ ap (λ (t : List C). f (take v ns) (take w ts) ∷ t)
      (rows-store n i (drop v ns) r (drop w ts) (omega arith) (omega (arith, grown v i ns, length-drop v ns)) e
      ∙ ap (λ (l : List B). set (rows v w f n (drop v ns) (drop w ts)) i (f r (take w l))) (sym (peel-drop w i ts)))

-- ---- a list after a row was made room for and filled, or after a gap was closed
module _ {A : Type 0} (v : ℕ) (l : List A) where
  module _ (n k i : ℕ) (split : n ≡ k + i) where
    whole : v * n ≡ v * i + v * k
    whole = let e : v * k + v * i ≡ v * i + v * k = omega arith in ap (λ (m : ℕ). v * m) split ∙ mul-add v k i ∙ e

    pub filled : (r : List A) {u : List A} → v * n + v ≤ length l → u ≡ copy_within l (v * i) (v * n) (v * i + v)
        → take (v * i) u ++ (r ++ drop v (drop (v * i) u)) ≡ take (v * i) l ++ (r ++ (take (v * k) (drop (v * i) l) ++ drop (v * n + v) l))
    filled r {u} g e =
        let x = take (v * n - v * i) (drop (v * i) l) ++ drop (v * i + v + (v * n - v * i)) l in
        let h = take (v * i + v) l in
        let e : u ≡ h ++ x = e ∙ append_assoc h (take (v * n - v * i) (drop (v * i) l)) (drop (v * i + v + (v * n - v * i)) l) in
        let s : length h ≡ v * i + v = length-take-le (v * i + v) l (omega (arith, whole)) in
        let a : take (v * i) u ≡ take (v * i) l =
        ap (take (v * i)) e ∙ take-append-le (v * i) h x (omega arith) ∙ take-take (v * i) (v * i + v) l (omega arith)
        in
        let b : drop v (drop (v * i) u) ≡ x = drop-drop v (v * i) u ∙ ap (drop (v * i + v)) e ∙ drop_at h x (v * i + v) s in
        let many : v * n - v * i ≡ v * k = omega (arith, whole) in
        let end : v * i + v + (v * n - v * i) ≡ v * n + v = omega (arith, whole) in
        λ j. a j ++ (r ++ (b ∙ λ p. take (many p) (drop (v * i) l) ++ drop (end p) l) j)

    pub closed : {u : List A} → v * n + v ≤ length l → u ≡ copy_within l (v * i + v) (v * suc n) (v * i)
        → u ≡ take (v * i) l ++ (take (v * k) (drop (v * suc i) l) ++ drop (v * n) l)
    closed {u} g e =
        let many : v * suc n - (v * i + v) ≡ v * k = omega (arith, whole, mul-suc v n) in
        let end : v * i + (v * suc n - (v * i + v)) ≡ v * n = omega (arith, whole, mul-suc v n) in
        e
        ∙ append_assoc (take (v * i) l) (take (v * suc n - (v * i + v)) (drop (v * i + v) l)) (drop (v * i + (v * suc n - (v * i + v))) l)
        ∙ λ p. take (v * i) l ++ (take (many p) (drop (sym (mul-suc v i) p) l) ++ drop (end p) l)

module _ {A B C : Type 0} (v w : ℕ) (f : List A → List B → C) (n k i : ℕ) (ns : List A) (ts : List B) where
  first-row : (r x : List A) (q y : List B) → length r ≡ v → length q ≡ w → rows v w f (suc k) (r ++ x) (q ++ y) ≡ f r q ∷ rows v w f k x y
  unfolding rows
  first-row r x q y a b = λ j. f (take_at r x v a j) (take_at q y w b j) ∷ rows v w f k (drop_at r x v a j) (drop_at q y w b j)

  behind : (m : ℕ) (x : List A) (y : List B) → v * (k + m) ≤ length ns → w * (k + m) ≤ length ts
      → rows v w f k (take (v * k) (drop (v * m) ns) ++ x) (take (w * k) (drop (w * m) ts) ++ y) ≡ drop m (rows v w f (k + m) ns ts)
  behind m x y a b =
      rows-front v w f k (drop (v * m) ns) x (drop (w * m) ts) y (omega (arith, mul-add v k m, length-drop (v * m) ns)) (omega (arith, mul-add w k m, length-drop (w * m) ts))
      ∙ rows_drop v w f k m ns ts

  pub rows-insert : (r x : List A) (q y : List B) {ns' : List A} {ts' : List B} → n ≡ k + i → v * n ≤ length ns → w * n ≤ length ts → length r ≡ v → length q ≡ w
      → ns' ≡ take (v * i) ns ++ (r ++ (take (v * k) (drop (v * i) ns) ++ x)) → ts' ≡ take (w * i) ts ++ (q ++ (take (w * k) (drop (w * i) ts) ++ y))
      → rows v w f (suc n) ns' ts' ≡ insert_at i (f r q) (rows v w f n ns ts)
  rows-insert r x q y e g h a b c d =
      let s : suc n ≡ suc k + i = omega arith in
      (λ j. rows v w f (s j) (c j) (d j))
      ∙ rows-splice v w f n (suc k) i ns _ ts _ (omega arith) (omega (arith, whole v ns n k i e)) (omega (arith, whole w ts n k i e))
      ∙ ap (λ (t : List C). take i (rows v w f n ns ts) ++ t)
      (first-row r _ q _ a b
      ∙ ap (λ (t : List C). f r q ∷ t) (behind i x y (rw e at g) (rw e at h) ∙ ap (λ (m : ℕ). drop i (rows v w f m ns ts)) (sym e)))

  pub rows-replace : (r : List A) (q : List B) → n ≡ suc k + i → v * n ≤ length ns → w * n ≤ length ts → length r ≡ v → length q ≡ w
      → rows v w f n (take (v * i) ns ++ (r ++ drop v (drop (v * i) ns))) (take (w * i) ts ++ (q ++ drop w (drop (w * i) ts))) ≡ set (rows v w f n ns ts) i (f r q)
  rows-replace r q e g h a b =
      let s : k + suc i ≡ n = omega arith in
      let m : (c : ℕ) → c * i + c ≡ c * suc i = λ c. sym (mul-suc c i) in
      ap (λ (c : ℕ). rows v w f c (take (v * i) ns ++ (r ++ drop v (drop (v * i) ns))) (take (w * i) ts ++ (q ++ drop w (drop (w * i) ts)))) e
      ∙ rows-splice v w f n (suc k) i ns _ ts _ (omega arith) (omega (arith, whole v ns n (suc k) i e)) (omega (arith, whole w ts n (suc k) i e))
      ∙ ap (λ (t : List C). take i (rows v w f n ns ts) ++ t)
      (first-row r _ q _ a b
      ∙ ap (λ (t : List C). f r q ∷ t)
      ((λ j. rows v w f k ((drop-drop v (v * i) ns ∙ ap (λ (c : ℕ). drop c ns) (m v)) j) ((drop-drop w (w * i) ts ∙ ap (λ (c : ℕ). drop c ts) (m w)) j))
      ∙ rows_drop v w f k (suc i) ns ts ∙ ap (λ (c : ℕ). drop (suc i) (rows v w f c ns ts)) s))
      ∙ sym (set_split (rows v w f n ns ts) i (f r q) (omega (arith, rows-length v w f n ns ts)))

  pub rows-remove : (x : List A) (y : List B) {ns' : List A} {ts' : List B} → n ≡ k + i → v * suc n ≤ length ns → w * suc n ≤ length ts
      → ns' ≡ take (v * i) ns ++ (take (v * k) (drop (v * suc i) ns) ++ x) → ts' ≡ take (w * i) ts ++ (take (w * k) (drop (w * suc i) ts) ++ y)
      → rows v w f n ns' ts' ≡ remove_at i (rows v w f (suc n) ns ts)
  rows-remove x y e g h c d =
      let s : suc n ≡ k + suc i = omega arith in
      (λ j. rows v w f (e j) (c j) (d j))
      ∙ rows-splice v w f (suc n) k i ns _ ts _ (omega arith) (omega (arith, whole v ns n k i e, mul-suc v n)) (omega (arith, whole w ts n k i e, mul-suc w n))
      ∙ ap (λ (t : List C). take i (rows v w f (suc n) ns ts) ++ t)
      (behind (suc i) x y (rw s at g) (rw s at h) ∙ ap (λ (m : ℕ). drop (suc i) (rows v w f m ns ts)) (sym s))

-- ---- rows of one list
module _ {A C : Type 0} (w : ℕ) (f : List A → C) where
  pub lines-length : (n : ℕ) (l : List A) → length (lines w f n l) ≡ n
  lines-length n l = rows-length w w (λ r q. f r) n l l

  pub lines_at : (n i : ℕ) (l : List A) (d : C) → i < n → get_or (lines w f n l) i d ≡ f (row w i l)
  lines_at n i l d h = rows_at w w (λ r q. f r) n i l l d h

  pub lines-replace : (n i : ℕ) (l r : List A) {l' : List A} → i < n → w * n ≤ length l → length r ≡ w
      → l' ≡ take (w * i) l ++ (r ++ drop w (drop (w * i) l)) → lines w f n l' ≡ set (lines w f n l) i (f r)
  lines-replace n i l r h g e p =
      let k = n - suc i in
      let s : n ≡ suc k + i = omega arith in
      ap (λ (z : List A). lines w f n z) p ∙ rows-replace w w (λ r q. f r) n k i l l r r s g g e e

  -- a row put in before the others from i on: they were moved up, and row i was filled
  pub lines-insert : (n i : ℕ) (l r : List A) {u l' : List A} → i ≤ n → w * n + w ≤ length l → length r ≡ w → u ≡ copy_within l (w * i) (w * n) (w * i + w)
      → l' ≡ take (w * i) u ++ (r ++ drop w (drop (w * i) u)) → lines w f (suc n) l' ≡ insert_at i (f r) (lines w f n l)
  lines-insert n i l r {u} {l'} h g e m p =
      let s : n ≡ (n - i) + i = omega arith in
      let c : l' ≡ take (w * i) l ++ (r ++ (take (w * (n - i)) (drop (w * i) l) ++ drop (w * n + w) l)) = p ∙ filled w l n (n - i) i s r g m in
      rows-insert w w (λ r q. f r) n (n - i) i l l r _ r _ s (omega arith) (omega arith) e e c c

  pub lines-remove : (n i : ℕ) (l : List A) {l' : List A} → i < n → w * n ≤ length l → l' ≡ copy_within l (w * i + w) (w * n) (w * i)
      → lines w f (n - 1) l' ≡ remove_at i (lines w f n l)
  lines-remove n i l {l'} h g m =
      let k = n - 1 in
      let s : k ≡ (k - i) + i = omega arith in
      let t : suc k ≡ n = omega arith in
      let b : w * k + w ≤ length l = omega (arith, mul-suc w k, ap (λ (x : ℕ). w * x) t) in
      let c = closed w l k (k - i) i s b (m ∙ ap (λ (x : ℕ). copy_within l (w * i + w) (w * x) (w * i)) (sym t)) in
      let z : w * suc k ≤ length l = omega (arith, ap (λ (x : ℕ). w * x) t) in
      rows-remove w w (λ r q. f r) k (k - i) i l l _ _ s z z c c ∙ ap (λ (x : ℕ). remove_at i (lines w f x l)) t

  first-line : (r x : List A) → length r ≡ w → rows w w (λ r q. f r) 1 (r ++ x) (r ++ x) ≡ f r ∷ []
  unfolding rows
  first-line r x a = λ j. f (take_at r x w a j) ∷ []

  -- a row behind the first n
  pub lines-push : (n : ℕ) (l r : List A) {l' : List A} → w * n + w ≤ length l → length r ≡ w
      → l' ≡ take (w * n) l ++ (r ++ drop w (drop (w * n) l)) → lines w f (suc n) l' ≡ lines w f n l ++ (f r ∷ [])
  lines-push n l r {l'} g e p =
      let s : suc n ≡ 1 + n = omega arith in
      let x = r ++ drop w (drop (w * n) l) in
      ap (λ (m : ℕ). lines w f m l') s ∙ ap (λ (z : List A). lines w f (1 + n) z) p
      ∙ rows-splice w w (λ r q. f r) n 1 n l x l x (omega arith) (omega arith) (omega arith)
      ∙ ap (λ (t : List C). t ++ rows w w (λ r q. f r) 1 x x) (take_all n (lines w f n l) (omega (arith, lines-length n l)))
      ∙ ap (λ (t : List C). lines w f n l ++ t) (first-line r _ e)
