-- Laws of matching targets: that a type matches itself, and that a target that matches a good
-- type is a good text: its left part is the type's and its right part a number, or it is the type.
use Prim.Native.Nat.{ℕ, suc, ◌+◌, ◌<◌}
use mathlib.Core.Path.{◌≡◌, refl, ap, sym, ◌∙◌}
use mathlib.Core.Bool.{Bool, true, false, cond, ◌&&◌, ◌||◌, and-eq-true_iff, false≢true}
use mathlib.Core.List.{List, [], ◌∷◌, ◌++◌}
use native.Mathlib.Omega.{arith}
use native.Mathlib.Numerals.{add-one}
use lib.Dec.{leb, ltb, eqb}
use lib.ListN.{length, drop, get_or}
use lib.Seq.{split_at}
use borrow.Author.Tests.{le-leb, ltb-true, eqb-true, leb-true}
use Rattle.text.specs.Range.{within}
use Rattle.text.specs.Bytes.{equal, last_index_of}
use Rattle.text.specs.Range.{every}
use Rattle.text.specs.Number.{number, unsigned, more, value, digits, max64}
use Rattle.text.specs.Good.{good_text}
use Rattle.std.specs.Prelude.{Option, Some, None}
use Rattle.text.proofs.Comparing.{equal_is, equal-refl}
use Rattle.engine.proofs.Parts.{both_true}
use Rattle.engine.specs.Target.{ssdp_all, colon, last_colon, has_colon, base_part, version, at_least, version_match, target_match}
use Rattle.engine.proofs.Splicing.{plain, all_plain, Plain, splice_end}

-- a type matches itself, and every type `ssdp:all`
pub or_second : (a c : Bool) → (a || true || c) ≡ true
or_second true c = refl
or_second false c = refl

pub match_self : (t : List ℕ) → target_match t t ≡ true
unfolding target_match
match_self t = rw (equal-refl t) (or_second (equal t ssdp_all) (version_match t t))

pub match_all : (t : List ℕ) → target_match ssdp_all t ≡ true
unfolding target_match
match_all t = rw (equal-refl ssdp_all)

-- a number has plain bytes, one or more
digit-plain : (d : ℕ) → within 48 57 d ≡ true → plain d ≡ true
digit-plain d e =
    let h = both_true (leb 48 d) (leb d 57) e in
    let low = leb-true 48 d h.0 in
    let high = leb-true d 57 h.1 in
    rw (le-leb 33 d (omega arith), le-leb d 126 (omega arith))

digits-plain : (s : List ℕ) → digits s ≡ true → all_plain s ≡ true
unfolding every
digits-plain [] e = refl
digits-plain (d ∷ s) e =
    let h = both_true (within 48 57 d) (digits s) e in
    (and-eq-true_iff (plain d) (all_plain s)).1 (digit-plain d h.0, digits-plain s h.1)

never : {A : Type 0} {v : ℕ} → None ≡ Some v → A
never {A} {v} e = absurd (let z : ◌≡◌ {A = ℕ} 0 1 = cc in omega arith)

unsigned-plain : (max : ℕ) (s : List ℕ) {v : ℕ} → unsigned max s ≡ Some v → Plain s
unfolding unsigned more
unsigned-plain max [] e = never e
unsigned-plain max (d ∷ s) {v} e = go (digits (d ∷ s)) (leb (value 0 (d ∷ s)) max) refl e
  where
    go : (a b : Bool) → digits (d ∷ s) ≡ a → cond (a && b) (Some (value 0 (d ∷ s))) None ≡ Some v → Plain (d ∷ s)
    go true b h q = record { bytes = digits-plain (d ∷ s) h; some = omega arith }
    go false b h q = never q

number-plain : (max : ℕ) (s : List ℕ) {v : ℕ} → number max s ≡ Some v → Plain s
unfolding number
number-plain max [] e = never e
number-plain max (a ∷ s) {v} e = go (eqb a 43) refl e
  where
    go : (t : Bool) → eqb a 43 ≡ t → cond t (unsigned max s) (unsigned max (a ∷ s)) ≡ Some v → Plain (a ∷ s)
    go true h q = record {
      bytes = rw (eqb-true a 43 h) (unsigned-plain max s q).bytes;
      some = omega arith;
    }
    go false h q = unsigned-plain max (a ∷ s) q

-- so has the number of a search that some version meets
wanted_plain : (max : ℕ) (s : List ℕ) (o : Option ℕ) → at_least (number max s) o ≡ true → Plain s
wanted_plain max s o e = go (number max s) refl e
  where
    go : (w : Option ℕ) → number max s ≡ w → at_least w o ≡ true → Plain s
    go (Some v) h q = number-plain max s h
    go None h q = absurd (false≢true q)

-- a colon stands at the place of the last colon
pub last_found : (b : ℕ) (s : List ℕ) → last_index_of b s < length s → get_or s (last_index_of b s) 0 ≡ b
unfolding last_index_of
last_found b [] h = absurd (omega arith)
last_found b (a ∷ s) h = go (ltb (last_index_of b s) (length s)) (eqb a b) refl refl (last_found b s) h
  where
    go : (t u : Bool) → ltb (last_index_of b s) (length s) ≡ t → eqb a b ≡ u → (last_index_of b s < length s → get_or s (last_index_of b s) 0 ≡ b)
        → cond t (suc (last_index_of b s)) (cond u 0 (suc (length s))) < suc (length s) → get_or (a ∷ s) (cond t (suc (last_index_of b s)) (cond u 0 (suc (length s)))) 0 ≡ b
    go true u e d k g = k (ltb-true _ _ e)
    go false true e d k g = eqb-true a b d
    go false false e d k g = absurd (omega arith)

-- a type with a colon, in its parts
split-last : (s : List ℕ) → has_colon s ≡ true → s ≡ base_part s ++ colon ∷ drop (last_colon s + 1) s
split-last s e =
    let h : last_colon s < length s = ltb-true (last_colon s) (length s) e in
    split_at s (last_colon s) 0 h ∙ rw (last_found colon s h, add-one (last_colon s))

version-good : (s t : List ℕ) → version_match s t ≡ true → good_text t ≡ true → good_text s ≡ true
unfolding version_match
version-good s t e g =
    let a = both_true (has_colon s && has_colon t && equal (base_part s) (base_part t)) (at_least (version s) (version t)) e in
    let b = both_true (has_colon s && has_colon t) (equal (base_part s) (base_part t)) a.0 in
    let c = both_true (has_colon s) (has_colon t) b.0 in
    let same : base_part s ≡ base_part t = equal_is (base_part s) (base_part t) b.1 in
    let p = wanted_plain max64 (drop (last_colon s + 1) s) (version t) a.1 in
    let was : good_text (base_part s ++ colon ∷ drop (last_colon t + 1) t) ≡ true =
    ap (λ (l : List ℕ). good_text (l ++ colon ∷ drop (last_colon t + 1) t)) same ∙ ap good_text (sym (split-last t c.1)) ∙ g
    in
    ap good_text (split-last s c.0) ∙ splice_end (base_part s) colon (omega arith) (drop (last_colon t + 1) t) (drop (last_colon s + 1) s) p was

-- a target that matches a good type is a good text, unless it is `ssdp:all`, which is replaced by the type
pub match_good : (s t : List ℕ) → target_match s t ≡ true → equal s ssdp_all ≡ false → good_text t ≡ true → good_text s ≡ true
unfolding target_match
match_good s t e n g = go (equal s ssdp_all) (equal s t) n refl e
  where
    go : (a b : Bool) → a ≡ false → equal s t ≡ b → (a || b || version_match s t) ≡ true → good_text s ≡ true
    go true b n d e = absurd (false≢true (sym n))
    go false true n d e = ap good_text (equal_is s t d) ∙ g
    go false false n d e = version-good s t e g
