-- Comparing texts and finding in them, as document 01 asks: keys in upper case ('Messages'), byte order of names ('Outbox'), first and last places ('target_match' and 'rewrite_host').
use Rattle.std.specs.Prelude.{ℕ, suc, ◌-◌, Bool, true, false, cond, ◌&&◌, not, List, [], ◌∷◌, eqb, ltb, length, get_or}
use Prim.Native.Char.{code}
use Prim.Native.String.{String, [] as []ˢ, ◌∷◌ as ◌∷ˢ◌}
use Rattle.text.specs.Range.{within, every}
use Rattle.std.specs.declared.cmp.Ordering.{Ordering}
use Rattle.std.specs.declared.cmp.Ordering.TheVariants.{Less, Equal, Greater}

-- the bytes of an ASCII text
unfoldable pub bytes : String → List ℕ
bytes []ˢ = []
bytes (c ∷ˢ s) = code c ∷ bytes s

-- s is t once f is put on each byte of s
unfoldable pub agree : (ℕ → ℕ) → List ℕ → List ℕ → Bool
agree f [] [] = true
agree f [] (b ∷ t) = false
agree f (a ∷ s) [] = false
agree f (a ∷ s) (b ∷ t) = eqb (f a) b && agree f s t

-- a byte as it is
abbrev pub same : ℕ → ℕ
same a = a

-- a byte as an ASCII capital, if it is an ASCII letter
unfoldable pub upper : ℕ → ℕ
upper a = cond (within 97 122 a) (a - 32) a

-- s is t
abbrev pub equal : List ℕ → List ℕ → Bool
equal s t = agree same s t

-- s, its ASCII letters in upper case, is t
abbrev pub equal_upper : List ℕ → List ℕ → Bool
equal_upper s t = agree upper s t

-- byte order of two texts
unfoldable pub order : List ℕ → List ℕ → Ordering
order [] [] = Equal
order [] (b ∷ t) = Less
order (a ∷ s) [] = Greater
order (a ∷ s) (b ∷ t) = cond (ltb a b) Less (cond (ltb b a) Greater (order s t))

-- the first place of s from which on f holds; the length of s if there is none
unfoldable pub first_place : (List ℕ → Bool) → List ℕ → ℕ
first_place f [] = 0
first_place f (a ∷ s) = cond (f (a ∷ s)) 0 (suc (first_place f s))

-- s has no byte b
abbrev pub lacks : ℕ → List ℕ → Bool
lacks b s = every (λ (a : ℕ). not (eqb a b)) s

-- the first byte of s is b
abbrev pub headed : ℕ → List ℕ → Bool
headed b s = eqb (get_or s 0 0) b

-- the first place of b in s; the length of s if it has none
unfoldable pub index_of : ℕ → List ℕ → ℕ
index_of b s = first_place (headed b) s

-- the last place of b in s; the length of s if it has none
unfoldable pub last_index_of : ℕ → List ℕ → ℕ
last_index_of b [] = 0
last_index_of b (a ∷ s) =
    cond (ltb (last_index_of b s) (length s)) (suc (last_index_of b s))
    (cond (eqb a b) 0 (suc (length s)))

-- s starts with p
unfoldable pub starts_with : List ℕ → List ℕ → Bool
starts_with [] s = true
starts_with (b ∷ p) [] = false
starts_with (b ∷ p) (a ∷ s) = eqb a b && starts_with p s

-- the first place in s where p starts; the length of s if there is none
unfoldable pub index_of_text : List ℕ → List ℕ → ℕ
index_of_text p s = first_place (starts_with p) s
