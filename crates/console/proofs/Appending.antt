-- Laws of text that grows in a buffer: what is appended part by part is appended as a whole.
use mathlib.Core.Path.{◌≡◌, refl, sym, ◌∙◌, ap, subst}
use mathlib.Core.List.{List, [], ◌∷◌, ◌++◌, append_assoc, append-nil}
use Prim.Native.Nat.{ℕ, ◌+◌, ◌≤◌, ◌<◌}
use native.Mathlib.Omega.{arith}
use native.Mathlib.Numerals.{add-one}
use lib.ListN.{length, take, set, get_or, length-append, length-set}
use lib.Seq.{take_all, take-suc, take-suc-set, take-append-le, take-nil}
use Rattle.console.specs.Buffer.{Filled, Appends}

-- an empty text
pub empty : (buffer : List ℕ) → Filled [] buffer 0
empty buffer = record { size = omega arith; front = sym (take-nil (length buffer)) }

-- a text that has room is there whole
pub whole : {text buffer : List ℕ} {len : ℕ} → Filled text buffer len → length text ≤ length buffer → take len buffer ≡ text
whole {text} {buffer} f h = f.front ∙ take_all (length buffer) text h

-- a byte where there is room, and where there is none
room_for : (b t : List ℕ) (len byte : ℕ) → len < length b → Filled t b len → Filled (t ++ (byte ∷ [])) (set b len byte) (len + 1)
room_for b t len byte h f =
    let n : length t ≡ len = omega (arith, f.size) in
    let m : length (t ++ (byte ∷ [])) ≡ length t + 1 = length-append t (byte ∷ []) in
    let s : length (set b len byte) ≡ length b = length-set b len byte in
    record {
      size = omega (arith, m, s, n);
      front =
          ap (λ (k : ℕ). take k (set b len byte)) (add-one len)
          ∙ take-suc-set b len byte h
          ∙ ap (λ (l : List ℕ). l ++ (byte ∷ [])) (whole f (omega (arith, n)))
          ∙ sym (take_all (length (set b len byte)) (t ++ (byte ∷ [])) (omega (arith, m, s, n)));
    }

no_room : (b t : List ℕ) (len byte : ℕ) → length b ≤ len → Filled t b len → Filled (t ++ (byte ∷ [])) b len
no_room b t len byte h f =
    record {
      size = omega (arith, f.size, length-append t (byte ∷ []));
      front = f.front ∙ sym (take-append-le (length b) t (byte ∷ []) (omega (arith, f.size)));
    }

pub pushed : (b : List ℕ) (len byte : ℕ) → len < length b → Appends (byte ∷ []) b len (set b len byte) (len + 1)
pushed b len byte h = record { room = length-set b len byte; then = λ t f. room_for b t len byte h f }

pub full : (b : List ℕ) (len byte : ℕ) → length b ≤ len → Appends (byte ∷ []) b len b len
full b len byte h = record { room = refl; then = λ t f. no_room b t len byte h f }

-- nothing appended
pub nothing : (b : List ℕ) (len : ℕ) → Appends [] b len b len
nothing b len = record { room = refl; then = λ t f. subst (λ (l : List ℕ). Filled l b len) (sym (append-nil t)) f }

-- a text, and another behind it
infixl 20 ◌⨟◌
pub ◌⨟◌ : {u v b b' b'' : List ℕ} {len r r' : ℕ} → Appends u b len b' r → Appends v b' r b'' r' → Appends (u ++ v) b len b'' r'
◌⨟◌ {u} {v} {b} {b'} {b''} {len} {r} {r'} p q =
    record {
      room = q.room ∙ p.room;
      then = λ t f. subst (λ (l : List ℕ). Filled l b'' r') (append_assoc t u v) (q.then (t ++ u) (p.then t f));
    }

-- the same text under another name
pub text : {u v b b' : List ℕ} {len r : ℕ} → Appends u b len b' r → u ≡ v → Appends v b len b' r
text {u} {v} {b} {b'} {len} {r} p e = subst (λ (l : List ℕ). Appends l b len b' r) e p

-- a turn of a loop that appends byte by byte
pub turn : (s : List ℕ) (i : ℕ) {b b' b'' : List ℕ} {len r r' : ℕ} → i < length s → Appends (take i s) b len b' r → Appends (get_or s i 0 ∷ []) b' r b'' r' → Appends (take (i + 1) s) b len b'' r'
turn s i h p q = text (p ⨟ q) (sym (take-suc s i 0 h) ∙ ap (λ (k : ℕ). take k s) (sym (add-one i)))

-- what is appended to an empty buffer
pub filled : {u b b' : List ℕ} {r : ℕ} → Appends u b 0 b' r → Filled u b' r
filled {u} {b} {b'} {r} p = p.then [] (empty b)
