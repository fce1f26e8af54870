-- What an accepted call has passed: every check of its list is false, so that what it brings to the names is within its sizes and a good text.
use mathlib.Core.Path.{◌≡◌, refl}
use mathlib.Core.Bool.{Bool, true, false, cond, not, ◌&&◌, ◌||◌, true≢false}
use mathlib.Core.List.{List, [], ◌∷◌}
use mathlib.Core.Option.{Option, none, some}
use Prim.Native.Nat.{ℕ, ◌≤◌, ◌<◌}
use native.Mathlib.Omega.{arith}
use lib.Dec.{leb, eqb}
use lib.ListN.{length}
use borrow.Author.Tests.{ltb-false, not-false, not-true, eqb-false}
use Rattle.text.specs.Good.{good_text}
use Rattle.message.specs.Parse.{parsed, field_at}
use Rattle.message.specs.Build.{type_max, name_max, at_most}
use Rattle.message.specs.Refusals.{text_over_size, text_not_good}
use Rattle.message.proofs.Sending.{Fit}
use Rattle.message.specs.declared.Message.{Message}
use Rattle.message.specs.declared.Message.TheVariants.{NotifyAlive, NotifyByeBye, Search, Response}
use Rattle.engine.specs.Sizes.{advertisements_max, location_max}
use Rattle.engine.specs.Table.{known}
use Rattle.engine.specs.Held.{Text, Context, Held, Advertisement, advertised}
use Rattle.engine.specs.Calls.{Call, NewLink, DeletedLink, NewAddress, DeletedAddress, Subscribe, Advertise, Deadvertise, Refresh, Datagram, Timeout, ResetTimer, Act, Enters, Leaves, Asks, Ticks, asks, acts}
use Rattle.engine.specs.Need.{Names}
use Rattle.engine.specs.Refusals.{table_full, Check, first_of, over, bad, search_checks, checks, refusal}
use Rattle.engine.specs.Engine.{names_of, refusal_of}
use Rattle.engine.specs.declared.advertisement.Endpoint.{Endpoint}
use Rattle.engine.proofs.Members.{Each, nobody, both}

-- ---- a list of checks
abbrev pub Passed : List Check → Type 0
Passed [] = Unit {0}
Passed (c ∷ cs) = (c.fails ≡ false) × Passed cs

-- a check that fails has a number
abbrev Numbered : List Check → Type 0
Numbered [] = Unit {0}
Numbered (c ∷ cs) = (c.fails ≡ true → c.number ≡ 0 → ⊥) × Numbered cs

all-passed : (cs : List Check) → Numbered cs → first_of cs ≡ 0 → Passed cs
all-passed [] h e = tt
all-passed (c ∷ cs) h e = go c.fails h.0 (all-passed cs h.1) e
  where
    go : (b : Bool) → (b ≡ true → c.number ≡ 0 → ⊥) → (first_of cs ≡ 0 → Passed cs) → cond b c.number (first_of cs) ≡ 0 → (b ≡ false) × Passed cs
    go true n p e = absurd (n refl e)
    go false n p e = (refl, p e)

search-numbered : (s : List ℕ) (m : Option Message) → Numbered (search_checks s m)
search-numbered s none = tt
search-numbered s (some (NotifyAlive nt usn l)) = tt
search-numbered s (some (NotifyByeBye nt usn)) = tt
search-numbered s (some (Search st mx)) = (λ b. omega arith, (λ b. omega arith, tt))
search-numbered s (some (Response st usn l)) = tt

numbered : (x : Context) (n : Names) (c : Call) → Numbered (checks x n c)
unfolding checks
numbered x n (NewLink index flags outcome room) = (λ b. omega arith, (λ b. omega arith, (λ b. omega arith, (λ b. omega arith, tt))))
numbered x n (DeletedLink index outcome) = (λ b. omega arith, tt)
numbered x n (NewAddress index address room) = (λ b. omega arith, (λ b. omega arith, (λ b. omega arith, (λ b. omega arith, tt))))
numbered x n (DeletedAddress index address) = (λ b. omega arith, (λ b. omega arith, tt))
numbered x n (Subscribe service room) = (λ b. omega arith, (λ b. omega arith, (λ b. omega arith, (λ b. omega arith, tt))))
numbered x n (Advertise name service location room) = (λ b. omega arith, (λ b. omega arith, (λ b. omega arith, (λ b. omega arith, tt))))
numbered x n (Deadvertise name room) = (λ b. omega arith, tt)
numbered x n (Refresh room) = (λ b. omega arith, tt)
numbered x n (Datagram now sender receiver s) =
    (λ b. omega arith, (λ b e. eqb-false (parsed s).refusal 0 (not-true _ b) e, search-numbered s (parsed s).message))
numbered x n (Timeout now room) = (λ b. omega arith, (λ b. omega arith, tt))
numbered x n (ResetTimer now) = (λ b. omega arith, tt)

pub passed : (x : Context) (n : Names) (c : Call) → refusal x n c ≡ 0 → Passed (checks x n c)
unfolding refusal
passed x n c e = all-passed (checks x n c) (numbered x n c) e

-- the check with this number; asked for by it, the order of the checks is no matter
abbrev pub failing : ℕ → List Check → Bool
failing number [] = false
failing number (c ∷ cs) = cond (eqb number c.number) c.fails (failing number cs)

abbrev pub Cleared : List Check → Type 0
Cleared cs = (number : ℕ) → failing number cs ≡ false

by_number : (cs : List Check) → Passed cs → Cleared cs
by_number [] p number = refl
by_number (c ∷ cs) p number = go (eqb number c.number) (by_number cs p.1 number)
  where
    go : (same : Bool) → failing number cs ≡ false → cond same c.fails (failing number cs) ≡ false
    go true rest = p.0
    go false rest = rest

pub cleared : (x : Context) (n : Names) (c : Call) → refusal x n c ≡ 0 → Cleared (checks x n c)
cleared x n c e = by_number (checks x n c) (passed x n c e)

-- ---- texts
pub or_false : (a b : Bool) → (a || b) ≡ false → (a ≡ false) × (b ≡ false)
or_false true b e = absurd (true≢false e)
or_false false b e = (refl, e)

-- a text that the build functions take
abbrev pub Fits : ℕ → Text → Type 0
Fits max t = Fit (at_most max t)

pub fits-passed : (max : ℕ) (t : Text) → over max t ≡ false → bad t ≡ false → Fits max t
fits-passed max t o b = record { size = ltb-false max (length t) o; good = not-false (good_text t) b }

-- three texts, of which none is over its size and none is bad
pub three-fit : (k l m : ℕ) (s t u : Text) → (over k s || over l t || over m u) ≡ false → (bad s || bad t || bad u) ≡ false →
    Fits k s × Fits l t × Fits m u
three-fit k l m s t u o b =
    let o' = or_false (over k s || over l t) (over m u) o in
    let o'' = or_false (over k s) (over l t) o'.0 in
    let b' = or_false (bad s || bad t) (bad u) b in
    let b'' = or_false (bad s) (bad t) b'.0 in
    (fits-passed k s o''.0 b''.0, fits-passed l t o''.1 b''.1, fits-passed m u o'.1 b'.1)

-- ---- a call does one thing to the names, or none
abbrev pub Single : List Act → Type 0
Single [] = Unit {0}
Single (x ∷ []) = Unit {0}
Single (x ∷ y ∷ xs) = ⊥

single-asks : (now : ℕ) (sender : Endpoint) (receiver : ℕ) (s : List ℕ) (m : Option Message) → Single (asks now sender receiver s m)
single-asks now sender receiver s none = tt
single-asks now sender receiver s (some (NotifyAlive nt usn l)) = tt
single-asks now sender receiver s (some (NotifyByeBye nt usn)) = tt
single-asks now sender receiver s (some (Search st mx)) = tt
single-asks now sender receiver s (some (Response st usn l)) = tt

pub single : (c : Call) → Single (acts c)
unfolding acts
single (NewLink index flags outcome room) = tt
single (DeletedLink index outcome) = tt
single (NewAddress index address room) = tt
single (DeletedAddress index address) = tt
single (Subscribe service room) = tt
single (Advertise name service location room) = tt
single (Deadvertise name room) = tt
single (Refresh room) = tt
single (Datagram now sender receiver s) = single-asks now sender receiver s (parsed s).message
single (Timeout now room) = tt
single (ResetTimer now) = tt

-- ---- what a call brings to the names
abbrev pub Brings : List Advertisement → Act → Type 0
Brings as' (Enters name service location) =
    Fits name_max name × Fits type_max service × Fits location_max location × ((not (known advertised name as') && leb advertisements_max (length as')) ≡ false)
Brings as' (Leaves name) = Unit {0}
Brings as' (Asks q) = (length q.target ≤ type_max) × (0 < q.mx)
Brings as' (Ticks now) = Unit {0}

asks-bring : (as' : List Advertisement) (now : ℕ) (sender : Endpoint) (receiver : ℕ) (s : List ℕ) (m : Option Message) →
    Passed (search_checks s m) → Each (Brings as') (asks now sender receiver s m)
asks-bring as' now sender receiver s none p = nobody
asks-bring as' now sender receiver s (some (NotifyAlive nt usn l)) p = nobody
asks-bring as' now sender receiver s (some (NotifyByeBye nt usn)) p = nobody
asks-bring as' now sender receiver s (some (Search st mx)) p = both (ltb-false type_max (length (field_at s st)) p.1.0, omega (arith, eqb-false mx 0 p.0)) nobody
asks-bring as' now sender receiver s (some (Response st usn l)) p = nobody

brings-at : (h : Held) (c : Call) → Passed (checks h.context (names_of h.advertisements) c) → Each (Brings h.advertisements) (acts c)
unfolding acts checks names_of
brings-at h (NewLink index flags outcome room) p = nobody
brings-at h (DeletedLink index outcome) p = nobody
brings-at h (NewAddress index address room) p = nobody
brings-at h (DeletedAddress index address) p = nobody
brings-at h (Subscribe service room) p = nobody
brings-at h (Advertise name service location room) p =
    let k = by_number (checks h.context (names_of h.advertisements) (Advertise name service location room)) p in
    let t = three-fit name_max type_max location_max name service location (k text_over_size) (k text_not_good) in
    both {a = Enters name service location} (t.0, t.1, t.2, k table_full) nobody
brings-at h (Deadvertise name room) p = both {a = Leaves name} tt nobody
brings-at h (Refresh room) p = nobody
brings-at h (Datagram now sender receiver s) p = asks-bring h.advertisements now sender receiver s (parsed s).message p.1.1
brings-at h (Timeout now room) p = both {a = Ticks now} tt nobody
brings-at h (ResetTimer now) p = nobody

pub brings : (h : Held) (c : Call) → refusal_of h c ≡ 0 → Each (Brings h.advertisements) (acts c)
unfolding refusal_of
brings h c e = brings-at h c (passed h.context (names_of h.advertisements) c e)
