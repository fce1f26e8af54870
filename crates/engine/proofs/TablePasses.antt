-- Laws of loops over the names in their arrays: sums, the earliest instant, and a table of which each entry is changed in place.
use mathlib.Core.Path.{◌≡◌, refl, sym, ◌∙◌, ap}
use mathlib.Core.Bool.{Bool, true, false, cond, false≢true}
use mathlib.Core.List.{List, [], ◌∷◌, ◌++◌, map, append_assoc, append-nil}
use Prim.Native.Nat.{ℕ, suc, ◌+◌, ◌≤◌, ◌<◌}
use native.Mathlib.Numerals.{add-one}
use native.Mathlib.Omega.{arith}
use lib.ListN.{length, take, drop, set, get_or, length-map, drop_of_length-le}
use lib.Seq.{take-suc, drop-cons, set_at, get_or_at, set-get_or, take_all, length-take-le}
use Rattle.text.specs.Bytes.{equal}
use Rattle.engine.specs.Delay.{delay}
use Rattle.engine.specs.Target.{ssdp_all}
use Rattle.engine.specs.Held.{Text, Advertisement}
use Rattle.engine.specs.Calls.{Query}
use Rattle.engine.specs.Records.{is_due}
use Rattle.engine.specs.Replies as replies
use Rattle.engine.specs.Replies.{sum_of, waits, sooner, soonest, is_none, answer_type, asked_need, asked_answer, hits, asked, matched_by, joined_by, served_need, served, is_alone, is_group, alone_at, group_at, result}
use Rattle.engine.specs.Passes.{asked_by}
use Rattle.engine.specs.Arrays.{entry_in, reply_at, entry_at, name_count, names_in}
use Rattle.engine.specs.Changes.{change_at, blank, with_active, PassOne, PassAll, AskedBy}
use Rattle.engine.specs.declared.advertisement.Endpoint.{Endpoint}
use Rattle.engine.specs.declared.advertisement.ResponseNeeded.{ResponseNeeded}
use Rattle.engine.specs.declared.advertisement.ResponseNeeded.TheVariants.{None, Multicast, Unicast}
use Rattle.engine.proofs.Slots.{map-append}
use Rattle.engine.proofs.Passes.{Summing, sum_turn, sum_over, soonest-turn, soonest-over}
use Rattle.engine.proofs.Waits.{asked-parts}
use Rattle.engine.proofs.NameRows.{next-is, none_left}

-- ---- a row
module _ (i : ℕ) (ns ts : List ℕ) where
  pub needed-is : {n : ResponseNeeded} → n ≡ reply_at i ns → n ≡ (entry_at i ns ts).needed
  unfolding entry_in
  needed-is e = e

-- ---- the waiting replies: how many there are of the entries so far, and the earliest instant with theirs
pub record Waiting (time : ℕ) (l : List Advertisement) (i sum poll : ℕ) : Type 0 where
  pub many : Summing (λ a. waits a.needed) l i (drop i l) sum
  pub soon : soonest time l ≡ soonest poll (drop i l)

module _ (time : ℕ) (head ns ts : List ℕ) where
  pub waiting-turn : {i sum poll one poll' : ℕ} {n : ResponseNeeded} → i < name_count head → n ≡ reply_at i ns → (one ≡ waits n) × (one ≤ 1) → poll' ≡ sooner poll n
      → Waiting time (names_in head ns ts) i sum poll → Waiting time (names_in head ns ts) (i + 1) (sum + one) poll'
  waiting-turn {i} {sum} {poll} h e x s g =
      let n = next-is head ns ts i h in
      let d = needed-is i ns ts e in
      record {
        many = sum_turn (λ a. waits a.needed) (names_in head ns ts) n (x.0 ∙ ap waits d, x.1) g.many;
        soon = soonest-turn poll n (s ∙ ap (sooner poll) d) g.soon;
      }

  pub waiting-over : {i sum poll : ℕ} → name_count head ≤ i → Waiting time (names_in head ns ts) i sum poll
      → (sum ≡ replies.waiting (names_in head ns ts)) × (poll ≡ soonest time (names_in head ns ts))
  unfolding replies.waiting
  waiting-over {i} h g =
      let z = none_left head ns ts i h in
      (sum_over (λ a. waits a.needed) (names_in head ns ts) z g.many, soonest-over z g.soon)

-- ---- the replies that are due: how many there are of the entries so far, to lone searchers and to the group
pub record Due (time : ℕ) (l : List Advertisement) (i alone group : ℕ) : Type 0 where
  pub first : Summing (alone_at time) l i (drop i l) alone
  pub second : Summing (group_at time) l i (drop i l) group

module _ (time : ℕ) (head ns ts : List ℕ) where
  pub due-turn : {i alone group x y : ℕ} {n : ResponseNeeded} → i < name_count head → n ≡ reply_at i ns
      → (x ≡ cond (is_due time n) (is_alone n) 0) × (x ≤ 1) → (y ≡ cond (is_due time n) (is_group n) 0) × (y ≤ 1)
      → Due time (names_in head ns ts) i alone group → Due time (names_in head ns ts) (i + 1) (alone + x) (group + y)
  unfolding alone_at group_at
  due-turn {i} h e x y g =
      let n = next-is head ns ts i h in
      let d = needed-is i ns ts e in
      record {
        first = sum_turn (alone_at time) (names_in head ns ts) n (x.0 ∙ ap (λ (r : ResponseNeeded). cond (is_due time r) (is_alone r) 0) d, x.1) g.first;
        second = sum_turn (group_at time) (names_in head ns ts) n (y.0 ∙ ap (λ (r : ResponseNeeded). cond (is_due time r) (is_group r) 0) d, y.1) g.second;
      }

  pub due-over : {i alone group : ℕ} → name_count head ≤ i → Due time (names_in head ns ts) i alone group
      → (alone ≡ sum_of (alone_at time) (names_in head ns ts)) × (group ≡ sum_of (group_at time) (names_in head ns ts))
  due-over {i} h g =
      let z = none_left head ns ts i h in
      (sum_over (alone_at time) (names_in head ns ts) z g.first, sum_over (group_at time) (names_in head ns ts) z g.second)

-- ---- a pass over a list in place: the entries before the i-th are replaced and counted, and the others are as they came
module _ {A : Type 0} (f : A → A) (g h : A → ℕ) (d : A) (l : List A) where
  abbrev passed : ℕ → List A
  passed i = map f (take i l) ++ drop i l

  pub record Passing (i : ℕ) (t : List A) (m n : ℕ) : Type 0 where
    pub done : t ≡ passed i
    pub first : sum_of g l ≡ m + sum_of g (drop i l)
    pub second : sum_of h l ≡ n + sum_of h (drop i l)
    pub few : (m ≤ i) × (n ≤ i)

  module _ (i : ℕ) (lt : i < length l) where
    here : passed i ≡ map f (take i l) ++ (get_or l i d ∷ drop (suc i) l)
    here = ap (λ (t : List A). map f (take i l) ++ t) (drop-cons l i d lt)

    before : length (map f (take i l)) ≡ i
    before = length-map (take i l) f ∙ length-take-le i l (omega arith)

    same : get_or (passed i) i d ≡ get_or l i d
    same = ap (λ (t : List A). get_or t i d) here ∙ get_or_at (map f (take i l)) (get_or l i d) (drop (suc i) l) d i before

    next : set (passed i) i (f (get_or (passed i) i d)) ≡ passed (suc i)
    next =
        (λ j. set (here j) i (f (same j)))
        ∙ set_at (map f (take i l)) (get_or l i d) (drop (suc i) l) (f (get_or l i d)) i before
        ∙ sym (append_assoc (map f (take i l)) (f (get_or l i d) ∷ []) (drop (suc i) l))
        ∙ ap (λ (t : List A). t ++ drop (suc i) l) (sym (ap (map f) (take-suc l i d lt) ∙ map-append f (take i l) (get_or l i d ∷ [])))

    sum_more : (k : A → ℕ) → sum_of k (drop i l) ≡ k (get_or l i d) + sum_of k (drop (suc i) l)
    unfolding sum_of
    sum_more k = ap (sum_of k) (drop-cons l i d lt)

    pub pass-turn : {t t' : List A} {m n x y : ℕ} → PassOne f g h d i t t' x y → Passing i t m n → Passing (i + 1) t' (m + x) (n + y)
    pass-turn {t} {t'} {m} {n} {x} {y} o p =
        let v : get_or t i d ≡ get_or l i d = ap (λ (u : List A). get_or u i d) p.done ∙ same in
        let a : sum_of g l ≡ (m + x) + sum_of g (drop (suc i) l) = omega (arith, p.first, sum_more g, o.first.0, ap g v) in
        let b : sum_of h l ≡ (n + y) + sum_of h (drop (suc i) l) = omega (arith, p.second, sum_more h, o.second.0, ap h v) in
        let r : Passing (suc i) t' (m + x) (n + y) =
        record {
          done = o.table ∙ ap (λ (u : List A). set u i (f (get_or u i d))) p.done ∙ next;
          first = a;
          second = b;
          few = (omega (arith, p.few.0, o.first.1), omega (arith, p.few.1, o.second.1));
        }
        in
        rw (add-one i) r

  pub pass-over : {i : ℕ} {t : List A} {m n : ℕ} → length l ≤ i → Passing i t m n → PassAll f g h l t m n
  unfolding sum_of
  pass-over {i} {t} {m} {n} le p =
      let e : drop i l ≡ [] = drop_of_length-le l {i = i} le in
      let a : sum_of g (drop i l) ≡ 0 = ap (sum_of g) e in
      let b : sum_of h (drop i l) ≡ 0 = ap (sum_of h) e in
      record {
        table = p.done ∙ (λ j. map f (take_all i l le j) ++ e j) ∙ append-nil (map f l);
        first = omega (arith, p.first);
        second = omega (arith, p.second);
      }

-- ---- a search and one waiting reply: one opens where none waits, with its answer type; else the searcher joins it
-- what the search makes of it depends on the sender and the receiver alone
pub need-of : (due : ℕ) (target : Text) (sender : Endpoint) (receiver : ℕ) (n : ResponseNeeded)
    → asked_need true due (asked_by [] sender receiver) n ≡ asked_need true due (asked_by target sender receiver) n
need-of due target sender receiver None = refl
need-of due target sender receiver (Multicast d) = refl
need-of due target sender receiver (Unicast d s r) = refl

module _ (due : ℕ) (q : Query) (service answer : Text) where
  record Opens (n : ResponseNeeded) : Type 0 where
    pub reply : Unicast due q.sender q.receiver ≡ asked_need true due q n
    pub type : answer_type q.target service ≡ asked_answer true q service n answer
    pub none : 0 ≡ waits n

  none-waits : (n : ResponseNeeded) → is_none n ≡ true → Opens n
  none-waits None e = record { reply = refl; type = refl; none = refl }
  none-waits (Multicast d) e = absurd (false≢true e)
  none-waits (Unicast d s r) e = absurd (false≢true e)

  one-waits : (n : ResponseNeeded) → is_none n ≡ false → (answer ≡ asked_answer true q service n answer) × (1 ≡ waits n)
  one-waits None e = absurd (false≢true (sym e))
  one-waits (Multicast d) e = (refl, refl)
  one-waits (Unicast d s r) e = (refl, refl)

-- the type that an opened reply answers in
module _ {b : Bool} (service target : Text) (asks : b ≡ equal target ssdp_all) where
  pub own_type : b ≡ true → service ≡ answer_type target service
  own_type e = rw (sym asks ∙ e)

  pub target-type : b ≡ false → target ≡ answer_type target service
  target-type e = rw (sym asks ∙ e)

-- ---- one entry: a search
module _ (due : ℕ) (q : Query) (a : Advertisement) where
  asked-with : {n : ResponseNeeded} {t : Text} → n ≡ asked_need (hits q a) due q a.needed → t ≡ asked_answer (hits q a) q a.service a.needed a.answer
      → with_active n t a ≡ asked due q a
  unfolding asked
  asked-with p r = λ i. record { name = a.name; service = a.service; location = a.location; needed = p i; answer = r i }

  module _ {l : List Advertisement} {i : ℕ} (here : get_or l i blank ≡ a) where
    module _ (f : hits q a ≡ true) where
      ask-hit : {l' : List Advertisement} {n : ResponseNeeded} {t : Text} {w : ℕ} → n ≡ asked_need true due q a.needed → t ≡ asked_answer true q a.service a.needed a.answer
          → l' ≡ change_at blank i (with_active n t) l → w ≡ waits a.needed → w ≤ 1 → PassOne (asked due q) (matched_by q) (joined_by q) blank i l l' 1 w
      unfolding matched_by joined_by
      ask-hit {n = n} {t = t} p r e x g =
          let m : 1 ≡ matched_by q a = rw f in
          let j : waits a.needed ≡ joined_by q a = rw f in
          let s : with_active n t a ≡ asked due q a = asked-with (rw f p) (rw f r) in
          record {
            table = e ∙ ap (λ (y : Advertisement). set l i y) (ap (with_active n t) here ∙ s ∙ ap (asked due q) (sym here));
            first = (m ∙ ap (matched_by q) (sym here), omega arith);
            second = (x ∙ j ∙ ap (joined_by q) (sym here), g);
          }

      -- no reply waits: what the search opens is stored
      pub ask-opens : {l' : List Advertisement} {m : ResponseNeeded} {t : Text} → m ≡ a.needed → is_none m ≡ true → t ≡ answer_type q.target a.service
          → l' ≡ change_at blank i (with_active (Unicast due q.sender q.receiver) t) l
          → PassOne (asked due q) (matched_by q) (joined_by q) blank i l l' 1 0
      ask-opens e z t r =
          let k = none-waits due q a.service a.answer a.needed (ap is_none (sym e) ∙ z) in
          ask-hit k.reply (t ∙ k.type) r k.none (omega arith)

      -- one waits: the joined reply is stored, and the answer type stays
      pub ask-joins : {l' : List Advertisement} {m n : ResponseNeeded} → m ≡ a.needed → is_none m ≡ false → n ≡ asked_need true due q m
          → l' ≡ change_at blank i (λ b. with_active n b.answer b) l → PassOne (asked due q) (matched_by q) (joined_by q) blank i l l' 1 1
      ask-joins {n = n} e z p r =
          let k = one-waits due q a.service a.answer a.needed (ap is_none (sym e) ∙ z) in
          ask-hit (p ∙ ap (asked_need true due q) e) k.0 (r ∙ ap (λ (b : Advertisement). set l i (with_active n b.answer (get_or l i blank))) here) k.1 (omega arith)

    pub ask-miss : hits q a ≡ false → PassOne (asked due q) (matched_by q) (joined_by q) blank i l l 0 0
    unfolding matched_by joined_by
    ask-miss f =
        let m : 0 ≡ matched_by q a = rw f in
        let j : 0 ≡ joined_by q a = rw f in
        let p : a ≡ asked due q a = asked-with (rw f) (rw f) in
        record {
          table = sym (set-get_or l i blank) ∙ ap (λ (y : Advertisement). set l i y) (here ∙ p ∙ ap (asked due q) (sym here));
          first = (m ∙ ap (matched_by q) (sym here), omega arith);
          second = (j ∙ ap (joined_by q) (sym here), omega arith);
        }

-- a search on all: replies depend on its target, sender and receiver alone
pub asked_by_lem : {l l' : List Advertisement} {m n : ℕ} (seed due : ℕ) (q : Query) → due ≡ q.time + delay seed q.mx
    → PassAll (asked due (asked_by q.target q.sender q.receiver)) (matched_by (asked_by q.target q.sender q.receiver)) (joined_by (asked_by q.target q.sender q.receiver)) l l' m n
    → AskedBy seed q l l' m n
unfolding result matched_by joined_by
asked_by_lem {l} seed due q e a = record {
  table = a.table ∙ asked-parts due q l ∙ ap (λ (d : ℕ). map (asked d q) l) e;
  matched = a.first;
  joined = a.second;
}

-- ---- one entry: a handle_timeout
module _ (time : ℕ) (a : Advertisement) where
  served-with : {n : ResponseNeeded} → n ≡ served_need (is_due time a.needed) a.needed → with_active n a.answer a ≡ served time a
  unfolding served
  served-with p = λ i. record { name = a.name; service = a.service; location = a.location; needed = p i; answer = a.answer }

  module _ {l : List Advertisement} {i : ℕ} (here : get_or l i blank ≡ a) {n : ResponseNeeded} (e : n ≡ a.needed) where
    pub serve_due : {l' : List Advertisement} {x y : ℕ} → is_due time n ≡ true → l' ≡ change_at blank i (λ b. with_active None b.answer b) l
        → (x ≡ is_alone n) × (x ≤ 1) → (y ≡ is_group n) × (y ≤ 1) → PassOne (served time) (alone_at time) (group_at time) blank i l l' x y
    unfolding alone_at group_at
    serve_due d p x y =
        let f : is_due time a.needed ≡ true = ap (is_due time) (sym e) ∙ d in
        let s : with_active None a.answer a ≡ served time a = served-with (rw f) in
        let u : is_alone a.needed ≡ alone_at time a = rw f in
        let v : is_group a.needed ≡ group_at time a = rw f in
        record {
          table = p ∙ ap (λ (b : Advertisement). set l i b) (ap (λ (b : Advertisement). with_active None b.answer b) here ∙ s ∙ ap (served time) (sym here));
          first = (x.0 ∙ ap is_alone e ∙ u ∙ ap (alone_at time) (sym here), x.1);
          second = (y.0 ∙ ap is_group e ∙ v ∙ ap (group_at time) (sym here), y.1);
        }

    pub serve_later : is_due time n ≡ false → PassOne (served time) (alone_at time) (group_at time) blank i l l 0 0
    unfolding alone_at group_at
    serve_later d =
        let f : is_due time a.needed ≡ false = ap (is_due time) (sym e) ∙ d in
        let s : a ≡ served time a = served-with (rw f) in
        let u : 0 ≡ alone_at time a = rw f in
        let v : 0 ≡ group_at time a = rw f in
        record {
          table = sym (set-get_or l i blank) ∙ ap (λ (b : Advertisement). set l i b) (here ∙ s ∙ ap (served time) (sym here));
          first = (u ∙ ap (alone_at time) (sym here), omega arith);
          second = (v ∙ ap (group_at time) (sym here), omega arith);
        }
