-- What a function makes of a row, of an entry of a table, and of every entry.
use Rattle.std.specs.Prelude.{ℕ, ◌*◌, ◌≤◌, ◌≡◌, List, [], ◌++◌, map, length, take, drop, set, get_or}
use Rattle.engine.specs.Held.{Text, Link, Advertisement}
use Rattle.engine.specs.Calls.{Query, Asks}
use Rattle.engine.specs.Replies.{sum_of, result}
use Rattle.engine.specs.Arrays.{link_width, link_in, link_rows, numbers_width, texts_width, reply_in, text_in, service_place, location_place, answer_place, entry_in, entries}
use Rattle.message.specs.Build.{type_max, name_max}
use Rattle.engine.specs.Sizes.{advertisements_max, links_max, location_max}
use Rattle.engine.specs.declared.advertisement.ResponseNeeded.{ResponseNeeded}
use Rattle.engine.specs.declared.advertisement.ResponseNeeded.TheVariants.{None}

-- ---- entry i of a list changed; a place outside the list changes nothing
abbrev pub change_at : {A : Type 0} → A → ℕ → (A → A) → List A → List A
change_at d i f l = set l i (f (get_or l i d))

abbrev pub blank : Advertisement
blank = record { name = []; service = []; location = []; needed = None; answer = [] }

-- another waiting reply and answer type
abbrev pub with_active : ResponseNeeded → Text → Advertisement → Advertisement
with_active needed answer a = record { name = a.name; service = a.service; location = a.location; needed = needed; answer = answer }

-- ---- a pass over a list: each entry is replaced by what `f` makes of it, and two numbers, `g` and `h` of each, are added up
module _ {A : Type 0} (f : A → A) (g h : A → ℕ) where
  -- at entry i
  pub record PassOne (d : A) (i : ℕ) (l l' : List A) (m n : ℕ) : Type 0 where
    pub table : l' ≡ change_at d i f l
    pub first : (m ≡ g (get_or l i d)) × (m ≤ 1)
    pub second : (n ≡ h (get_or l i d)) × (n ≤ 1)

  -- at every entry
  pub record PassAll (l l' : List A) (m n : ℕ) : Type 0 where
    pub table : l' ≡ map f l
    pub first : m ≡ sum_of g l
    pub second : n ≡ sum_of h l

-- ---- a row of a name's numbers with another waiting reply, and its four lengths: as they were, or with another length of the answer type
pub record Replied (x : ResponseNeeded) (len : ℕ) (r r' : List ℕ) : Type 0 where
  pub reply : reply_in r' ≡ x
  pub name : get_or r' 0 0 ≡ get_or r 0 0
  pub service : get_or r' 1 0 ≡ get_or r 1 0
  pub location : get_or r' 2 0 ≡ get_or r 2 0
  pub answer : get_or r' 3 0 ≡ len

-- ---- a row of both arrays replaced
pub record Filled (i : ℕ) (a : Advertisement) (numbers texts numbers' texts' : List ℕ) : Type 0 where
  pub row : List ℕ
  pub line : List ℕ
  pub sizes : (length row ≡ numbers_width) × (length line ≡ texts_width)
  pub entry : entry_in row line ≡ a
  pub first : numbers' ≡ take (numbers_width * i) numbers ++ (row ++ drop numbers_width (drop (numbers_width * i) numbers))
  pub second : texts' ≡ take (texts_width * i) texts ++ (line ++ drop texts_width (drop (texts_width * i) texts))

-- a row of texts with another answer type, of `len` bytes, and one of a new name
pub record Answered (len : ℕ) (t q q' : List ℕ) : Type 0 where
  pub front : take answer_place q' ≡ take answer_place q
  pub answer : text_in len answer_place type_max q' ≡ t

pub record NewNumbers (n k l : ℕ) (r : List ℕ) : Type 0 where
  pub name : get_or r 0 0 ≡ n
  pub service : get_or r 1 0 ≡ k
  pub location : get_or r 2 0 ≡ l
  pub answer : get_or r 3 0 ≡ 0
  pub reply : reply_in r ≡ None

pub record NewTexts (n k l q : List ℕ) : Type 0 where
  pub name : text_in (length n) 0 name_max q ≡ n
  pub service : text_in (length k) service_place type_max q ≡ k
  pub location : text_in (length l) location_place location_max q ≡ l

-- ---- a row of a link replaced, and the first n rows after a change of the links
pub record LinkFilled (i : ℕ) (a : Link) (links links' : List ℕ) : Type 0 where
  pub row : List ℕ
  pub size : length row ≡ link_width
  pub entry : link_in row ≡ a
  pub all : links' ≡ take (link_width * i) links ++ (row ++ drop link_width (drop (link_width * i) links))

pub record LinksAfter (n : ℕ) (links : List ℕ) (l : List Link) : Type 0 where
  pub few : n ≤ links_max
  pub rows : link_rows n links ≡ l

-- ---- a search on the names: those after it, and what it counts (document 01, 'Engine and ledger')
pub record AskedBy (seed : ℕ) (q : Query) (l l' : List Advertisement) (m n : ℕ) : Type 0 where
  pub table : l' ≡ (result seed l (Asks q)).advertisements
  pub matched : m ≡ (result seed l (Asks q)).counts.matched
  pub joined : n ≡ (result seed l (Asks q)).counts.joined

-- the first n rows after a name has entered or left
pub record NamesAfter (n : ℕ) (numbers texts : List ℕ) (l : List Advertisement) : Type 0 where
  pub few : n ≤ advertisements_max
  pub rows : entries n numbers texts ≡ l
