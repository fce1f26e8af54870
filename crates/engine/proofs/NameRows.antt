-- Laws of the table of names: a row of the two arrays read, changed, put in and taken out.
use mathlib.Core.Path.{◌≡◌, refl, sym, ◌∙◌, ap, subst}
use mathlib.Core.List.{List, [], ◌∷◌, ◌++◌, append_assoc}
use Prim.Native.Nat.{ℕ, suc, ◌+◌, ◌*◌, ◌-◌, ◌≤◌, ◌<◌}
use native.Mathlib.Nat.{mod-eq_of_lt}
use native.Mathlib.Numerals.{add-one}
use native.Mathlib.Omega.{arith}
use lib.ListN.{length, take, drop, set, get_or, length-take, length-drop, drop_of_length-le}
use lib.Seq.{drop-cons, take-add, take-take, take_at, drop_at, drop-drop, length-take-le, get_or-take, get_or-drop, get_or-set_same, get_or-set_other}
use Rattle.text.specs.Put.{overwritten, Put}
use borrow.Rule.Slice.PartMut.{put_mid}
use Rattle.message.specs.Build.{type_max, name_max}
use Rattle.engine.specs.Sizes.{advertisements_max, location_max}
use Rattle.engine.specs.Held.{Advertisement}
use Rattle.engine.specs.Slots.{insert_at, remove_at}
use Rattle.std.specs.List.{copy_within}
use Rattle.engine.specs.Replies.{newcomer}
use Rattle.engine.specs.Rows.{row}
use Rattle.engine.specs.Arrays.{numbers_width, numbers_size, texts_width, texts_size, service_place, location_place, answer_place, text_in, reply_of, reply_in, reply_at, entry_in, entry_at, entries, name_count, names_in}
use Rattle.engine.specs.Changes.{change_at, blank, with_active, Replied, Answered, NewNumbers, NewTexts, Filled}
use Rattle.engine.specs.declared.advertisement.ResponseNeeded.{ResponseNeeded}
use Rattle.engine.specs.declared.advertisement.ResponseNeeded.TheVariants.{Unicast}
use Rattle.engine.proofs.TableRows as rows

-- ---- the table as a list
module _ (n i : ℕ) (ns ts : List ℕ) (h : i < n) where
  pub entry-is : get_or (entries n ns ts) i blank ≡ entry_at i ns ts
  entry-is = rows.rows_at numbers_width texts_width entry_in n i ns ts blank h

pub names-length : (head ns ts : List ℕ) → length (names_in head ns ts) ≡ name_count head
unfolding names_in
names-length head ns ts = rows.rows-length numbers_width texts_width entry_in (name_count head) ns ts

-- what holds of the first n rows before and after, n being the count, holds of the table
pub as_held : (head ns ns' ts ts' : List ℕ) {n : ℕ} (P : List Advertisement → List Advertisement → Type 0) → n ≡ name_count head
    → P (entries n ns ts) (entries n ns' ts') → P (names_in head ns ts) (names_in head ns' ts')
unfolding names_in
as_held head ns ns' ts ts' P e p = subst (λ (k : ℕ). P (entries k ns ts) (entries k ns' ts')) e p

-- the table from an index on, as a loop that goes up meets it
module _ (head ns ts : List ℕ) (i : ℕ) where
  pub name-is : i < name_count head → get_or (names_in head ns ts) i blank ≡ entry_at i ns ts
  unfolding names_in
  name-is h = entry-is (name_count head) i ns ts h

  pub next-is : i < name_count head → drop i (names_in head ns ts) ≡ entry_at i ns ts ∷ drop (i + 1) (names_in head ns ts)
  next-is h =
      let l = names_in head ns ts in
      drop-cons l i blank (omega (arith, names-length head ns ts))
      ∙ (λ j. name-is h j ∷ drop (sym (add-one i) j) l)

  pub none_left : name_count head ≤ i → drop i (names_in head ns ts) ≡ []
  none_left h = drop_of_length-le (names_in head ns ts) {i = i} (omega (arith, names-length head ns ts))

-- ---- a row by places of its array
module _ (w i : ℕ) (l : List ℕ) where
  pub number-at : (j : ℕ) → j < w → get_or (row w i l) j 0 ≡ get_or l (w * i + j) 0
  number-at j h = get_or-take w (drop (w * i) l) j 0 h ∙ get_or-drop (w * i) l j 0

  pub part_at : (place size : ℕ) → place + size ≤ w → w * i + w ≤ length l → take size (drop place (row w i l)) ≡ take size (drop (w * i + place) l)
  part_at place size h g =
      let m = drop (w * i) l in
      let k = w - place in
      let e : w ≡ place + k = omega arith in
      ap (λ (c : ℕ). take size (drop place (take c m))) e
      ∙ ap (λ (t : List ℕ). take size (drop place t)) (take-add place k m)
      ∙ ap (take size) (drop_at (take place m) (take k (drop place m)) place (length-take-le place m (omega (arith, length-drop (w * i) l))))
      ∙ take-take size k (drop place m) (omega arith)
      ∙ ap (take size) (drop-drop place (w * i) l)

pub text-fits : {r : List ℕ} (len place size : ℕ) (q : List ℕ) → r ≡ text_in len place size q → length r ≤ size
text-fits len place size q e = omega (arith, ap length e, length-take len (take size (drop place q)), length-take size (drop place q))

module _ (i : ℕ) (ns ts : List ℕ) (h : i < advertisements_max) (b : length ts ≡ texts_size) where
  pub text_at : (j place size : ℕ) → j < numbers_width → place + size ≤ texts_width
      → text_in (get_or ns (numbers_width * i + j) 0) (texts_width * i + place) size ts ≡ text_in (get_or (row numbers_width i ns) j 0) place size (row texts_width i ts)
  text_at j place size g f = sym (λ k. take (number-at numbers_width i ns j g k) (part_at texts_width i ts place size f (omega arith) k))

pub location-fits : {r : List ℕ} (i : ℕ) (ns ts : List ℕ) → r ≡ (entry_at i ns ts).location → length r ≤ location_max
unfolding entry_in
location-fits i ns ts e = text-fits (get_or (row numbers_width i ns) 2 0) location_place location_max (row texts_width i ts) e

pub reply-at : (i : ℕ) (ns : List ℕ)
    → (let at : ℕ → ℕ = λ j. get_or ns (numbers_width * i + j) 0 in reply_of (at 4) (at 5) (at 6) (at 7) (at 8) ≡ reply_at i ns)
unfolding reply_in
reply-at i ns =
    let at : (j : ℕ) → j < numbers_width → get_or (row numbers_width i ns) j 0 ≡ get_or ns (numbers_width * i + j) 0 = number-at numbers_width i ns in
    sym (λ k. reply_of (at 4 (omega arith) k) (at 5 (omega arith) k) (at 6 (omega arith) k) (at 7 (omega arith) k) (at 8 (omega arith) k))

-- ---- the numbers of a row, written and read back
pub reply-written : (ns : List ℕ) (c d s p r : ℕ) → length ns ≡ numbers_width
    → Replied (reply_of c d s p r) (get_or ns 3 0) ns (set (set (set (set (set ns 4 c) 5 d) 6 s) 7 p) 8 r)
unfolding reply_in
reply-written [] c d s p r e = absurd (omega arith)
reply-written (_ ∷ []) c d s p r e = absurd (omega arith)
reply-written (_ ∷ _ ∷ []) c d s p r e = absurd (omega arith)
reply-written (_ ∷ _ ∷ _ ∷ []) c d s p r e = absurd (omega arith)
reply-written (_ ∷ _ ∷ _ ∷ _ ∷ []) c d s p r e = absurd (omega arith)
reply-written (_ ∷ _ ∷ _ ∷ _ ∷ _ ∷ []) c d s p r e = absurd (omega arith)
reply-written (_ ∷ _ ∷ _ ∷ _ ∷ _ ∷ _ ∷ []) c d s p r e = absurd (omega arith)
reply-written (_ ∷ _ ∷ _ ∷ _ ∷ _ ∷ _ ∷ _ ∷ []) c d s p r e = absurd (omega arith)
reply-written (_ ∷ _ ∷ _ ∷ _ ∷ _ ∷ _ ∷ _ ∷ _ ∷ []) c d s p r e = absurd (omega arith)
reply-written (_ ∷ _ ∷ _ ∷ _ ∷ _ ∷ _ ∷ _ ∷ _ ∷ _ ∷ l) c d s p r e =
    record { reply = refl; name = refl; service = refl; location = refl; answer = refl }

pub new-numbers : (ns : List ℕ) (a b c : ℕ) → length ns ≡ numbers_width → NewNumbers a b c (set (set (set (set (set ns 0 a) 1 b) 2 c) 3 0) 4 0)
unfolding reply_in reply_of
new-numbers [] a b c e = absurd (omega arith)
new-numbers (_ ∷ []) a b c e = absurd (omega arith)
new-numbers (_ ∷ _ ∷ []) a b c e = absurd (omega arith)
new-numbers (_ ∷ _ ∷ _ ∷ []) a b c e = absurd (omega arith)
new-numbers (_ ∷ _ ∷ _ ∷ _ ∷ []) a b c e = absurd (omega arith)
new-numbers (_ ∷ _ ∷ _ ∷ _ ∷ _ ∷ l) a b c e = record { name = refl; service = refl; location = refl; answer = refl; reply = refl }

-- numbers that are narrow already
pub lone : (due s p r : ℕ) → s < 4294967296 → p < 65536 → r < 4294967296 → reply_of 2 due s p r ≡ Unicast due (record { address = s; port = p }) r
unfolding reply_of
lone due s p r h i j = λ k. Unicast due (record { address = mod-eq_of_lt h k; port = mod-eq_of_lt i k }) (mod-eq_of_lt j k)

pub replied : {x y : ResponseNeeded} {len : ℕ} {r r' : List ℕ} → x ≡ y → Replied x len r r' → Replied y len r r'
replied e p = record { reply = p.reply ∙ e; name = p.name; service = p.service; location = p.location; answer = p.answer }

-- a length of the answer type beside it
pub with_length : {x : ResponseNeeded} {old : ℕ} {r r' : List ℕ} (len : ℕ) → length r' ≡ numbers_width → Replied x old r r' → Replied x len r (set r' 3 len)
unfolding reply_in
with_length {r' = r'} len e p = record {
  reply = (λ j. reply_of (other 4 (omega arith) j) (other 5 (omega arith) j) (other 6 (omega arith) j) (other 7 (omega arith) j) (other 8 (omega arith) j)) ∙ p.reply;
  name = other 0 (omega arith) ∙ p.name;
  service = other 1 (omega arith) ∙ p.service;
  location = other 2 (omega arith) ∙ p.location;
  answer = get_or-set_same r' 3 len 0 (omega arith);
}
  where
    other : (j : ℕ) → (j ≡ 3 → ⊥) → get_or (set r' 3 len) j 0 ≡ get_or r' j 0
    other j h = get_or-set_other r' 3 j len 0 h

-- ---- the texts of a row, written and read back
module _ {q q' t : List ℕ} {at r : ℕ} (h : at ≤ length q) (p : Put q at t q' r) where
  written : q' ≡ take at q ++ (t ++ drop (at + length t) q)
  unfolding overwritten
  written = p.written ∙ append_assoc (take at q) t (drop (at + length t) q)

  put_front : take at q' ≡ take at q
  put_front = ap (take at) written ∙ take_at (take at q) (t ++ drop (at + length t) q) at (length-take-le at q h)

  put-there : take (length t) (drop at q') ≡ t
  put-there =
      ap (λ (l : List ℕ). take (length t) (drop at l)) written
      ∙ ap (take (length t)) (drop_at (take at q) (t ++ drop (at + length t) q) at (length-take-le at q h))
      ∙ take_at t (drop (at + length t) q) (length t) refl

-- lists with the same front have the same parts in it
module _ (n place size : ℕ) (a b : List ℕ) (h : place + size ≤ n) where
  in_front : (l : List ℕ) → n ≤ length l → take size (drop place l) ≡ drop place (take (place + size) (take n l))
  in_front l g =
      sym
      (ap (drop place) (take-take (place + size) n l h ∙ take-add place size l)
      ∙ drop_at (take place l) (take size (drop place l)) place (length-take-le place l (omega arith)))

  same-part : n ≤ length a → n ≤ length b → take n a ≡ take n b → take size (drop place a) ≡ take size (drop place b)
  same-part f g e = in_front a f ∙ ap (λ (l : List ℕ). drop place (take (place + size) l)) e ∙ sym (in_front b g)

pub new-texts : (q a b c n k l : List ℕ) {r s t : ℕ} → length q ≡ texts_width → length a ≡ texts_width → length b ≡ texts_width → length c ≡ texts_width
    → length n ≤ name_max → length k ≤ type_max → length l ≤ location_max
    → Put q 0 n a r → Put a service_place k b s → Put b location_place l c t → NewTexts n k l c
new-texts q a b c n k l eq ea eb ec hn hk hl x y z =
    let front : take location_place c ≡ take location_place b = put_front (omega arith) z in
    record {
      name =
          take-take (length n) name_max c hn
          ∙ same-part location_place 0 (length n) c b (omega arith) (omega arith) (omega arith) front
          ∙ same-part service_place 0 (length n) b a (omega arith) (omega arith) (omega arith) (put_front (omega arith) y)
          ∙ put-there (omega arith) x;
      service =
          take-take (length k) type_max (drop service_place c) hk
          ∙ same-part location_place service_place (length k) c b (omega arith) (omega arith) (omega arith) front
          ∙ put-there (omega arith) y;
      location = take-take (length l) location_max (drop location_place c) hl ∙ put-there (omega arith) z;
    }

-- another answer type, written over the end of a row: a text, or the type of the row
module _ (q : List ℕ) (wide : length q ≡ texts_width) where
  pub answer-put : (t : List ℕ) {q' : List ℕ} {r : ℕ} → length t ≤ type_max → Put q answer_place t q' r → Answered (length t) t q q'
  answer-put t {q'} h p = record {
    front = put_front (omega arith) p;
    answer = take-take (length t) type_max (drop answer_place q') h ∙ put-there (omega arith) p;
  }

  pub answer-own : {q' : List ℕ} (len : ℕ) → q' ≡ copy_within q service_place (service_place + type_max) answer_place
      → Answered len (text_in len service_place type_max q) q q'
  answer-own {q'} len e =
      let own = take type_max (drop service_place q) in
      let rest = drop (answer_place + type_max) q in
      let all : q' ≡ take answer_place q ++ (own ++ rest) = e ∙ append_assoc (take answer_place q) own rest in
      let front = length-take-le answer_place q (omega arith) in
      let size : length own ≡ type_max = length-take-le type_max (drop service_place q) (omega (arith, length-drop service_place q)) in
      record {
        front = ap (take answer_place) all ∙ take_at (take answer_place q) (own ++ rest) answer_place front;
        answer = ap (take len) (ap (take type_max) (ap (drop answer_place) all ∙ drop_at (take answer_place q) (own ++ rest) answer_place front) ∙ take_at own rest type_max size);
      }

-- another answer type, with what stands behind it, written over the whole place
pub answer-fixed : (q : List ℕ) → length q ≡ texts_width → (len : ℕ) {t d : List ℕ} {k : ℕ} → k ≡ type_max → length t ≡ type_max → d ≡ t → Answered len (take len t) q (put_mid answer_place k q d)
answer-fixed q wide len {t} {d} {k} e n o =
    let rest = drop k (drop answer_place q) in
    let front : length (take answer_place q) ≡ answer_place = length-take-le answer_place q (omega (arith, wide)) in
    let there : drop answer_place (put_mid answer_place k q d) ≡ d ++ rest = drop_at (take answer_place q) (d ++ rest) answer_place front in
    record {
      front = take_at (take answer_place q) (d ++ rest) answer_place front;
      answer = ap (take len) (ap (take type_max) there ∙ take_at d rest type_max (ap length o ∙ n) ∙ o);
    }

-- ---- a row replaced, as a part `[w * i..w * i + w]` of its array that was lent comes back
part-is : (a w : ℕ) (l : List ℕ) → take ((a + w) - a) (drop a l) ≡ take w (drop a l)
part-is a w l = let e : (a + w) - a ≡ w = omega arith in ap (λ (k : ℕ). take k (drop a l)) e

part-behind : (a w : ℕ) (l : List ℕ) → drop ((a + w) - a) (drop a l) ≡ drop w (drop a l)
part-behind a w l = let e : (a + w) - a ≡ w = omega arith in ap (λ (k : ℕ). drop k (drop a l)) e

module _ (i : ℕ) (ns ts r : List ℕ) where
  -- both arrays after row i was lent
  abbrev numbers_after : List ℕ
  numbers_after = take (numbers_width * i) ns ++ (r ++ drop ((numbers_width * i + numbers_width) - numbers_width * i) (drop (numbers_width * i) ns))

  abbrev numbers_part : List ℕ
  numbers_part = take ((numbers_width * i + numbers_width) - numbers_width * i) (drop (numbers_width * i) ns)

  numbers-back : numbers_after ≡ take (numbers_width * i) ns ++ (r ++ drop numbers_width (drop (numbers_width * i) ns))
  numbers-back = ap (λ (l : List ℕ). take (numbers_width * i) ns ++ (r ++ l)) (part-behind (numbers_width * i) numbers_width ns)

  module _ (q : List ℕ) where
    abbrev texts_after : List ℕ
    texts_after = take (texts_width * i) ts ++ (q ++ drop ((texts_width * i + texts_width) - texts_width * i) (drop (texts_width * i) ts))

    abbrev texts_part : List ℕ
    texts_part = take ((texts_width * i + texts_width) - texts_width * i) (drop (texts_width * i) ts)

    texts-back : texts_after ≡ take (texts_width * i) ts ++ (q ++ drop texts_width (drop (texts_width * i) ts))
    texts-back = ap (λ (l : List ℕ). take (texts_width * i) ts ++ (q ++ l)) (part-behind (texts_width * i) texts_width ts)

    pub new_row : {a b c : ℕ} (name service location : List ℕ) → length r ≡ numbers_width → length q ≡ texts_width
        → a ≡ length name → b ≡ length service → c ≡ length location → NewNumbers a b c r → NewTexts name service location q
        → Filled i (newcomer name service location) ns ts numbers_after texts_after
    unfolding entry_in
    new_row name service location e f x y z m t = record {
      row = r;
      line = q;
      sizes = (e, f);
      entry = λ j. record {
        name = (ap (λ (k : ℕ). text_in k 0 name_max q) (m.name ∙ x) ∙ t.name) j;
        service = (ap (λ (k : ℕ). text_in k service_place type_max q) (m.service ∙ y) ∙ t.service) j;
        location = (ap (λ (k : ℕ). text_in k location_place location_max q) (m.location ∙ z) ∙ t.location) j;
        needed = m.reply j;
        answer = ap (λ (k : ℕ). text_in k answer_place type_max q) m.answer j;
      };
      first = numbers-back;
      second = texts-back;
    }

    -- another reply and answer type: the entry is the one before with the two changed
    pub active_row : (reply : ResponseNeeded) {len : ℕ} {answer : List ℕ} → length r ≡ numbers_width → length q ≡ texts_width → texts_width * i + texts_width ≤ length ts
        → Replied reply len numbers_part r → Answered len answer texts_part q
        → Filled i (with_active reply answer (entry_at i ns ts)) ns ts numbers_after texts_after
    unfolding entry_in
    active_row reply e f g o t =
        let x = part-is (numbers_width * i) numbers_width ns in
        let s = row texts_width i ts in
        let whole : length s ≡ texts_width = length-take-le texts_width (drop (texts_width * i) ts) (omega (arith, length-drop (texts_width * i) ts)) in
        let front : take answer_place q ≡ take answer_place s = t.front ∙ ap (take answer_place) (part-is (texts_width * i) texts_width ts) in
        let part : (place size : ℕ) → place + size ≤ answer_place → take size (drop place q) ≡ take size (drop place s) =
        λ place size h. same-part answer_place place size q s h (omega arith) (omega (arith, whole)) front
        in
        record {
          row = r;
          line = q;
          sizes = (e, f);
          entry = λ j. record {
            name = take ((o.name ∙ ap (λ (z : List ℕ). get_or z 0 0) x) j) (part 0 name_max (omega arith) j);
            service = take ((o.service ∙ ap (λ (z : List ℕ). get_or z 1 0) x) j) (part service_place type_max (omega arith) j);
            location = take ((o.location ∙ ap (λ (z : List ℕ). get_or z 2 0) x) j) (part location_place location_max (omega arith) j);
            needed = o.reply j;
            answer = (ap (λ (k : ℕ). text_in k answer_place type_max q) o.answer ∙ t.answer) j;
          };
          first = numbers-back;
          second = texts-back;
        }

  -- the type of row i, as its own row and its array have it
  pub own_type : (len : ℕ) → len ≡ get_or ns (numbers_width * i + 1) 0
      → text_in len service_place type_max (take ((texts_width * i + texts_width) - texts_width * i) (drop (texts_width * i) ts)) ≡ (entry_at i ns ts).service
  unfolding entry_in
  own_type len e =
      λ j. text_in ((e ∙ sym (number-at numbers_width i ns 1 (omega arith))) j) service_place type_max (part-is (texts_width * i) texts_width ts j)

  pub reply-stored : (n : ℕ) (reply : ResponseNeeded) → i < n → numbers_width * i + numbers_width ≤ length ns → length r ≡ numbers_width → Replied reply (get_or numbers_part 3 0) numbers_part r
      → entries n numbers_after ts ≡ change_at blank i (λ a. with_active reply a.answer a) (entries n ns ts)
  unfolding entry_in
  reply-stored n reply h g e p =
      let x = part-is (numbers_width * i) numbers_width ns in
      let t = row texts_width i ts in
      let new : entry_in r t ≡ with_active reply (entry_at i ns ts).answer (entry_at i ns ts) =
      λ j. record {
        name = text_in ((p.name ∙ ap (λ (z : List ℕ). get_or z 0 0) x) j) 0 name_max t;
        service = text_in ((p.service ∙ ap (λ (z : List ℕ). get_or z 1 0) x) j) service_place type_max t;
        location = text_in ((p.location ∙ ap (λ (z : List ℕ). get_or z 2 0) x) j) location_place location_max t;
        needed = p.reply j;
        answer = text_in ((p.answer ∙ ap (λ (z : List ℕ). get_or z 3 0) x) j) answer_place type_max t;
      }
      in
      ap (λ (l : List ℕ). entries n l ts) numbers-back
      ∙ rows.rows-store numbers_width texts_width entry_in n i ns r ts h g e
      ∙ ap (set (entries n ns ts) i) (new ∙ ap (λ (a : Advertisement). with_active reply a.answer a) (sym (entry-is n i ns ts h)))

-- ---- entries put in, replaced and taken out
module _ (n i : ℕ) (ns ts : List ℕ) (a : length ns ≡ numbers_size) (b : length ts ≡ texts_size) where
  pub put_in : (x : Advertisement) {u t ns' ts' : List ℕ} → i ≤ n → n < advertisements_max
      → u ≡ copy_within ns (numbers_width * i) (numbers_width * n) (numbers_width * i + numbers_width) → t ≡ copy_within ts (texts_width * i) (texts_width * n) (texts_width * i + texts_width) → Filled i x u t ns' ts'
      → entries (suc n) ns' ts' ≡ insert_at i x (entries n ns ts)
  put_in x h g m o f =
      let e : n ≡ (n - i) + i = omega arith in
      rows.rows-insert numbers_width texts_width entry_in n (n - i) i ns ts f.row _ f.line _ e (omega arith) (omega arith) f.sizes.0 f.sizes.1
      (f.first ∙ rows.filled numbers_width ns n (n - i) i e f.row (omega arith) m)
      (f.second ∙ rows.filled texts_width ts n (n - i) i e f.line (omega arith) o)
      ∙ ap (λ (y : Advertisement). insert_at i y (entries n ns ts)) f.entry

  pub put-over : (x : Advertisement) {ns' ts' : List ℕ} → i < n → n ≤ advertisements_max → Filled i x ns ts ns' ts' → entries n ns' ts' ≡ set (entries n ns ts) i x
  put-over x h g f =
      let k = n - suc i in
      let e : n ≡ suc k + i = omega arith in
      (λ j. entries n (f.first j) (f.second j))
      ∙ rows.rows-replace numbers_width texts_width entry_in n k i ns ts f.row f.line e (omega arith) (omega arith) f.sizes.0 f.sizes.1
      ∙ ap (set (entries n ns ts) i) f.entry

  pub put-active : (reply : ResponseNeeded) (answer : List ℕ) {ns' ts' : List ℕ} → i < n → n ≤ advertisements_max
      → Filled i (with_active reply answer (entry_at i ns ts)) ns ts ns' ts' → entries n ns' ts' ≡ change_at blank i (with_active reply answer) (entries n ns ts)
  put-active reply answer h g f =
      put-over _ h g f ∙ ap (λ (x : Advertisement). set (entries n ns ts) i (with_active reply answer x)) (sym (entry-is n i ns ts h))

  pub taken_out : {ns' ts' : List ℕ} → i < n → n ≤ advertisements_max → ns' ≡ copy_within ns (numbers_width * i + numbers_width) (numbers_width * n) (numbers_width * i)
      → ts' ≡ copy_within ts (texts_width * i + texts_width) (texts_width * n) (texts_width * i) → entries (n - 1) ns' ts' ≡ remove_at i (entries n ns ts)
  taken_out h g p q =
      let m = n - 1 in
      let e : m ≡ (m - i) + i = omega arith in
      let s : suc m ≡ n = omega arith in
      rows.rows-remove numbers_width texts_width entry_in m (m - i) i ns ts _ _ e (omega arith) (omega arith)
      (rows.closed numbers_width ns m (m - i) i e (omega arith) (rw s p)) (rows.closed texts_width ts m (m - i) i e (omega arith) (rw s q))
      ∙ ap (λ (k : ℕ). remove_at i (entries k ns ts)) s
