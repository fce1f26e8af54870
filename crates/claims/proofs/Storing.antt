-- What rows can hold, and arrays that hold it: the inverse of the view (engine/specs/Arrays). Rows cannot hold every `Held`: a text longer than its place, a number
-- wider than its type or an entry more than the table has no place. `Fits` says what can be held; `held_back`, that the arrays made of it hold just that.
use mathlib.Core.Path.{◌≡◌, refl, sym, ◌∙◌, ap}
use mathlib.Core.Bool.{Bool, true, false, not}
use mathlib.Core.List.{List, [], ◌∷◌, ◌++◌, map, append_assoc, append-nil}
use Prim.Native.Nat.{ℕ, ◌*◌, ◌-◌, ◌≤◌}
use native.Mathlib.Nat.{min-eq_left, mod-eq_of_lt, mul-suc, mul-zero}
use native.Mathlib.Omega.{arith}
use lib.Dec.{eqb}
use lib.ListN.{length, take, drop, replicate, length-append, length-replicate}
use lib.Seq.{take_at, drop_at, take_all}
use Rattle.message.specs.Build.{type_max, name_max}
use Rattle.engine.specs.Sizes.{addresses_max, location_max}
use Rattle.engine.specs.Rows.{rows}
use Rattle.engine.specs.Held.{Text, Link, Context, Advertisement, Held, holding}
use Rattle.engine.specs.Records.{flat}
use Rattle.engine.specs.Arrays.{low32, seed_in, timer_in, link_width, link_numbers, link_in, link_rows, links_in, search_width, search_bytes, search_in, search_rows, searches_in, numbers_width, numbers_size, service_place, location_place, answer_place, texts_width, texts_size, reply_of, reply_in, entry_in, entries, names_in, Engine, engine, held}
use Rattle.claims.specs.EveryList.{Byte, Word, SenderFits, Sized}
use Rattle.engine.specs.declared.advertisement.ResponseNeeded.{ResponseNeeded}
use Rattle.engine.specs.declared.advertisement.ResponseNeeded.TheVariants.{None, Multicast, Unicast}
use Rattle.engine.proofs.Members.{Each, nobody, both, each-as}
use Rattle.claims.proofs.Reachable.{TextsFit, Reachable}

-- ---- what rows can hold
pub record Narrow (l : Link) : Type 0 where
  pub index : Word l.index
  pub addresses : Each Word l.addresses

abbrev pub ReplyFits : ResponseNeeded → Type 0
ReplyFits None = Unit {0}
ReplyFits (Multicast due) = Unit {0}
ReplyFits (Unicast due sender receiver) = SenderFits sender receiver

pub record Answerable (a : Advertisement) : Type 0 where
  pub needed : ReplyFits a.needed
  pub answer : length a.answer ≤ type_max

-- the seed stands once: the timer's is the engine's
pub record Ranged (x : Context) : Type 0 where
  pub seed : Word x.seed
  pub timer : x.timer.random_seed ≡ x.seed
  pub phase : Byte x.timer.phase
  pub links : Each Narrow x.links

pub record Fits (h : Held) : Type 0 where
  pub reachable : Reachable h
  pub ranged : Ranged h.context
  pub replies : Each Answerable h.advertisements

pub each_both : {A : Type 0} {P Q : A → Type 0} {l : List A} → Each P l → Each Q l → Each (λ x. P x × Q x) l
each_both nobody nobody = nobody
each_both (both p h) (both q k) = both (p, q) (each_both h k)

-- ---- padding
pad : ℕ → List ℕ → List ℕ
pad n t = t ++ replicate (n - length t) 0

pad-length : (n : ℕ) (t : List ℕ) → length t ≤ n → length (pad n t) ≡ n
unfolding pad
pad-length n t h = omega (arith, length-append t (replicate (n - length t) 0), length-replicate {A = ℕ} (n - length t) 0)

pad-back : (n : ℕ) (t : List ℕ) → take (length t) (pad n t) ≡ t
unfolding pad
pad-back n t = take_at t (replicate (n - length t) 0) (length t) refl

pad-all : (n : ℕ) (t : List ℕ) → length t ≤ n → take (length t) (take n (pad n t)) ≡ t
pad-all n t h = ap (take (length t)) (take_all n (pad n t) (omega (arith, pad-length n t h))) ∙ pad-back n t

-- ---- rows, read back
module _ {C : Type 0} (v : ℕ) (f : C → List ℕ) (P : C → Type 0) (sized : (c : C) → P c → length (f c) ≡ v) where
  flat-length : (l : List C) → Each P l → length (flat f l) ≡ v * length l
  unfolding flat
  flat-length [] nobody = sym (mul-zero v)
  flat-length (c ∷ l) (both p h) =
      omega (arith, length-append (f c) (flat f l), sized c p, flat-length l h, mul-suc v (length l))

module _ {C : Type 0} (v w : ℕ) (entry : List ℕ → List ℕ → C) (f g : C → List ℕ) (P : C → Type 0)
    (f-sized : (c : C) → P c → length (f c) ≡ v) (g-sized : (c : C) → P c → length (g c) ≡ w) (back : (c : C) → P c → entry (f c) (g c) ≡ c) where
  rows_back : (l : List C) → Each P l → (x y : List ℕ) → rows v w entry (length l) (flat f l ++ x) (flat g l ++ y) ≡ l
  unfolding rows flat
  rows_back [] nobody x y = refl
  rows_back (c ∷ l) (both p h) x y =
      let s = flat f l ++ x in
      let t = flat g l ++ y in
      let m = f-sized c p in
      let n = g-sized c p in
      (λ j. rows v w entry (length (c ∷ l)) (append_assoc (f c) (flat f l) x j) (append_assoc (g c) (flat g l) y j))
      ∙ (λ j. entry (take_at (f c) s v m j) (take_at (g c) t w n j) ∷ rows v w entry (length l) (drop_at (f c) s v m j) (drop_at (g c) t w n j))
      ∙ (λ j. back c p j ∷ rows_back l h x y j)

-- ---- a link
LinkFits : Link → Type 0
LinkFits l = (length l.addresses ≤ addresses_max) × Narrow l

bit : Bool → ℕ
bit true = 1
bit false = 0

bit-back : (b : Bool) → not (eqb (bit b) 0) ≡ b
unfolding bit
bit-back true = refl
bit-back false = refl

link_row : Link → List ℕ
link_row l = l.index ∷ bit l.up ∷ length l.addresses ∷ pad addresses_max l.addresses

link_sized : (l : Link) → LinkFits l → length (link_row l) ≡ link_width
unfolding link_row LinkFits
link_sized l f = omega (arith, pad-length addresses_max l.addresses f.0)

words_back : (l : List ℕ) → Each Word l → map low32 l ≡ l
words_back [] nobody = refl
words_back (a ∷ l) (both p h) = λ j. mod-eq_of_lt p j ∷ words_back l h j

link_back : (l : Link) → LinkFits l → link_in (link_row l) ≡ l
unfolding link_row link_in LinkFits
link_back l f =
    let addresses = ap (map low32) (pad-all addresses_max l.addresses f.0) ∙ words_back l.addresses f.1.addresses in
    λ j. record { index = mod-eq_of_lt f.1.index j; up = bit-back l.up j; addresses = addresses j }

-- ---- a subscription
SearchFits : Text → Type 0
SearchFits t = length t ≤ type_max

search_row : Text → List ℕ
search_row t = length t ∷ pad type_max t

search-sized : (t : Text) → SearchFits t → length (search_row t) ≡ search_width
unfolding search_row SearchFits
search-sized t f = omega (arith, pad-length type_max t f)

search-back : (t : Text) → SearchFits t → search_in (search_row t) ≡ t
unfolding search_row search_in SearchFits
search-back t f = pad-all type_max t f

-- ---- a name
NameFits : Advertisement → Type 0
NameFits a = TextsFit a × Answerable a

reply_numbers : ResponseNeeded → List ℕ
reply_numbers None = 0 ∷ 0 ∷ 0 ∷ 0 ∷ 0 ∷ []
reply_numbers (Multicast due) = 1 ∷ due ∷ 0 ∷ 0 ∷ 0 ∷ []
reply_numbers (Unicast due sender receiver) = 2 ∷ due ∷ sender.address ∷ sender.port ∷ receiver ∷ []

number_row : Advertisement → List ℕ
number_row a = length a.name ∷ length a.service ∷ length a.location ∷ length a.answer ∷ reply_numbers a.needed

text_row : Advertisement → List ℕ
text_row a = pad name_max a.name ++ (pad type_max a.service ++ (pad location_max a.location ++ pad type_max a.answer))

numbers-sized : (a : Advertisement) → NameFits a → length (number_row a) ≡ numbers_width
unfolding number_row reply_numbers
numbers-sized a f = go a.needed
  where
    go : (n : ResponseNeeded) → length (length a.name ∷ length a.service ∷ length a.location ∷ length a.answer ∷ reply_numbers n) ≡ numbers_width
    go None = refl
    go (Multicast due) = refl
    go (Unicast due sender receiver) = refl

texts-sized : (a : Advertisement) → NameFits a → length (text_row a) ≡ texts_width
unfolding text_row NameFits
texts-sized a f =
    let P = pad name_max a.name in
    let K = pad type_max a.service in
    let L = pad location_max a.location in
    let A = pad type_max a.answer in
    omega (
      arith,
      length-append P (K ++ (L ++ A)),
      length-append K (L ++ A),
      length-append L A,
      pad-length name_max a.name f.0.name.size,
      pad-length type_max a.service f.0.service.size,
      pad-length location_max a.location f.0.location.size,
      pad-length type_max a.answer f.1.answer,
    )

reply-back : (x y z u : ℕ) (n : ResponseNeeded) → ReplyFits n → reply_in (x ∷ y ∷ z ∷ u ∷ reply_numbers n) ≡ n
unfolding reply_numbers reply_in reply_of
reply-back x y z u None h = refl
reply-back x y z u (Multicast due) h = refl
reply-back x y z u (Unicast due sender receiver) h =
    λ j. Unicast due (record { address = mod-eq_of_lt h.0 j; port = mod-eq_of_lt h.1 j }) (mod-eq_of_lt h.2 j)

-- a padded text behind others
text-back : (x y : List ℕ) (place n : ℕ) (t : Text) → length x ≡ place → length t ≤ n → take (length t) (take n (drop place (x ++ (pad n t ++ y)))) ≡ t
text-back x y place n t e h =
    ap (λ (l : List ℕ). take (length t) (take n l)) (drop_at x (pad n t ++ y) place e)
    ∙ ap (take (length t)) (take_at (pad n t) y n (pad-length n t h)) ∙ pad-back n t

entry-back : (a : Advertisement) → NameFits a → entry_in (number_row a) (text_row a) ≡ a
unfolding number_row text_row entry_in NameFits reply_numbers
entry-back a f =
    let P = pad name_max a.name in
    let K = pad type_max a.service in
    let L = pad location_max a.location in
    let A = pad type_max a.answer in
    let p = pad-length name_max a.name f.0.name.size in
    let k = pad-length type_max a.service f.0.service.size in
    let l = pad-length location_max a.location f.0.location.size in
    let pk : length (P ++ K) ≡ location_place = omega (arith, length-append P K) in
    let pkl : length ((P ++ K) ++ L) ≡ answer_place = omega (arith, length-append (P ++ K) L) in
    let second : P ++ (K ++ (L ++ A)) ≡ (P ++ K) ++ (L ++ A) = sym (append_assoc P K (L ++ A)) in
    let third : P ++ (K ++ (L ++ A)) ≡ ((P ++ K) ++ L) ++ (A ++ []) =
    second ∙ sym (append_assoc (P ++ K) L A) ∙ ap (λ (x : List ℕ). ((P ++ K) ++ L) ++ x) (sym (append-nil A)) in
    let name = text-back [] (K ++ (L ++ A)) 0 name_max a.name refl f.0.name.size in
    let service = text-back P (L ++ A) service_place type_max a.service p f.0.service.size in
    let location = ap (λ (x : List ℕ). take (length a.location) (take location_max (drop location_place x))) second
    ∙ text-back (P ++ K) A location_place location_max a.location pk f.0.location.size in
    let answer = ap (λ (x : List ℕ). take (length a.answer) (take type_max (drop answer_place x))) third
    ∙ text-back ((P ++ K) ++ L) [] answer_place type_max a.answer pkl f.1.answer in
    let needed = reply-back (length a.name) (length a.service) (length a.location) (length a.answer) a.needed f.1.needed in
    λ j. record { name = name j; service = service j; location = location j; needed = needed j; answer = answer j }

-- ---- the arrays
unfoldable pub head_of : Held → List ℕ
head_of h =
    h.context.seed ∷ h.context.timer.next_salvo ∷ h.context.timer.phase ∷ length h.advertisements ∷ length h.context.links
    ∷ length h.context.subscriptions ∷ []

pub link_array : List Link → List ℕ
link_array ls = pad link_numbers (flat link_row ls)

pub search_array : List Text → List ℕ
search_array ts = pad search_bytes (flat search_row ts)

pub number_array : List Advertisement → List ℕ
number_array as' = pad numbers_size (flat number_row as')

pub text_array : List Advertisement → List ℕ
text_array as' = pad texts_size (flat text_row as')

abbrev pub engine_of : Held → Engine
engine_of h =
    engine (head_of h) (link_array h.context.links) (search_array h.context.subscriptions) (number_array h.advertisements)
    (text_array h.advertisements)

-- a timeout keeps the texts
pub texts-kept : (f : Advertisement → Advertisement) → ((a : Advertisement) → ((f a).name ≡ a.name) × ((f a).service ≡ a.service) × ((f a).location ≡ a.location) × ((f a).answer ≡ a.answer)) →
    (l : List Advertisement) → text_array (map f l) ≡ text_array l
unfolding text_array flat text_row
texts-kept f e l = ap (pad texts_size) (go l)
  where
    go : (l : List Advertisement) → flat text_row (map f l) ≡ flat text_row l
    go [] = refl
    go (a ∷ l) = λ j. (pad name_max ((e a).0 j) ++ (pad type_max ((e a).1 j) ++ (pad location_max ((e a).2 j) ++ pad type_max ((e a).3 j)))) ++ go l j

-- an array of rows, and its size
sized : (m n : ℕ) (l : List ℕ) → length l ≡ m → m ≤ n → length (pad n l) ≡ n
sized m n l e h = pad-length n l (omega arith)

module _ (h : Held) (f : Fits h) where
  links_fit : Each LinkFits h.context.links
  unfolding LinkFits
  links_fit = each_both f.reachable.linked.addresses f.ranged.links

  searches_fit : Each SearchFits h.context.subscriptions
  unfolding SearchFits
  searches_fit = each-as (λ t p. p.size) f.reachable.subscribed.fit

  names_fit : Each NameFits h.advertisements
  unfolding NameFits
  names_fit = each_both f.reachable.listed.fit f.replies

  -- what each array holds, whatever the others do
  pub head-back : (links searches numbers texts : List ℕ) → held (engine (head_of h) links searches numbers texts) ≡
      holding h.context.seed h.context.timer (link_rows (length h.context.links) links) (search_rows (length h.context.subscriptions) searches)
      (entries (length h.advertisements) numbers texts)
  unfolding held head_of seed_in timer_in links_in searches_in names_in
  head-back links searches numbers texts =
      let seed = mod-eq_of_lt f.ranged.seed in
      let own = seed ∙ sym f.ranged.timer in
      λ j. holding (seed j)
      (record { random_seed = own j; next_salvo = h.context.timer.next_salvo; phase = mod-eq_of_lt f.ranged.phase j })
      (link_rows (min-eq_left f.reachable.linked.few j) links) (search_rows (min-eq_left f.reachable.subscribed.few j) searches)
      (entries (min-eq_left f.reachable.listed.few j) numbers texts)

  pub links-back : link_rows (length h.context.links) (link_array h.context.links) ≡ h.context.links
  unfolding link_array pad
  links-back =
      rows_back link_width link_width (λ r q. link_in r) link_row link_row LinkFits link_sized link_sized link_back h.context.links links_fit _ _

  pub searches-back : search_rows (length h.context.subscriptions) (search_array h.context.subscriptions) ≡ h.context.subscriptions
  unfolding search_array pad
  searches-back =
      rows_back search_width search_width (λ r q. search_in r) search_row search_row SearchFits search-sized search-sized search-back h.context.subscriptions searches_fit _ _

  pub names-back : entries (length h.advertisements) (number_array h.advertisements) (text_array h.advertisements) ≡ h.advertisements
  unfolding number_array text_array pad
  names-back =
      rows_back numbers_width texts_width entry_in number_row text_row NameFits numbers-sized texts-sized entry-back h.advertisements names_fit _ _

  pub held_back : held (engine_of h) ≡ h
  held_back =
      head-back (link_array h.context.links) (search_array h.context.subscriptions) (number_array h.advertisements) (text_array h.advertisements)
      ∙ (λ j. holding h.context.seed h.context.timer (links-back j) (searches-back j) (names-back j))

  -- and each has its size
  pub all-sized : Sized (engine_of h)
  unfolding head_of link_array search_array number_array text_array
  all-sized = record {
    head = refl;
    links = sized _ link_numbers (flat link_row h.context.links) (flat-length link_width link_row LinkFits link_sized h.context.links links_fit) (omega (arith, f.reachable.linked.few));
    searches = sized _ search_bytes (flat search_row h.context.subscriptions) (flat-length search_width search_row SearchFits search-sized h.context.subscriptions searches_fit) (omega (arith, f.reachable.subscribed.few));
    numbers = sized _ numbers_size (flat number_row h.advertisements) (flat-length numbers_width number_row NameFits numbers-sized h.advertisements names_fit) (omega (arith, f.reachable.listed.few));
    texts = sized _ texts_size (flat text_row h.advertisements) (flat-length texts_width text_row NameFits texts-sized h.advertisements names_fit) (omega (arith, f.reachable.listed.few));
  }
