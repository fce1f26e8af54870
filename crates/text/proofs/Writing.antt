-- Laws of `Put`: a text that is written part by part is the parts' texts in a row, and what is written into a part of a buffer is written into
-- the whole.
use mathlib.Core.Path.{◌≡◌, sym, ◌∙◌, ap, subst}
use mathlib.Core.List.{List, [], ◌++◌, append_assoc, append-nil}
use Prim.Native.Nat.{ℕ, ◌+◌, ◌-◌, ◌≤◌, ◌<◌}
use native.Mathlib.Omega.{arith}
use native.Mathlib.Nat.{add-zero}
use native.Mathlib.Numerals.{add-one}
use lib.ListN.{length, take, drop, set, get_or, length-append, length-drop, drop_of_length-le, take-append-drop}
use lib.Seq.{paste, paste-suc, length_paste_head, take_at, drop_at, take-add, take-append-add, take-length, drop-append-add, drop-drop, drop-length, length-take-le, take-append-le, take-take, take_all}
use Rattle.text.specs.Put.{overwritten, Put}

-- one turn of a loop that copies `text` to `at`
pub turn : (buffer after text : List ℕ) (at i next : ℕ) → next ≡ at + i → at + i < length buffer → i < length text → after ≡ paste buffer at text i
    → set after next (get_or text i 0) ≡ paste buffer at text (i + 1)
turn buffer after text at i next e h g p =
    ap (λ (l : List ℕ). set l next (get_or text i 0)) p ∙ ap (λ (k : ℕ). set (paste buffer at text i) k (get_or text i 0)) e
    ∙ paste-suc buffer at text i 0 h g ∙ ap (paste buffer at text) (sym (add-one i))

-- and its end
pub copied : (buffer after text : List ℕ) (at i : ℕ) → i ≡ length text → after ≡ paste buffer at text i → after ≡ overwritten buffer at text
unfolding overwritten
copied buffer after text at i e p =
    p ∙ ap (paste buffer at text) e ∙ ap (λ (l : List ℕ). take at buffer ++ l ++ drop (at + length text) buffer) (take-length text)

-- the length of a part of a text
pub part_length : (t : List ℕ) (k e : ℕ) → e ≤ length t → length (take (e - k) (drop k t)) ≡ e - k
part_length t k e h = length-take-le (e - k) (drop k t) (omega (arith, length-drop k t))

-- the part of `text` from `k` to `e` written behind, or over the end of, the `i` bytes that are written already
pub over : (b t : List ℕ) (at i k e : ℕ) {b' b'' : List ℕ} {r : ℕ} → at ≤ length b → k ≤ i → i ≤ e → e ≤ length t → b' ≡ paste b at t i
    → Put b' (at + k) (take (e - k) (drop k t)) b'' r → b'' ≡ paste b at t e
unfolding overwritten
over b t at i k e {b'} {b''} room low high fits w p =
    let a : List ℕ = take at b in
    let x : List ℕ = take (e - k) (drop k t) in
    let la : length a ≡ at = length-take-le at b room in
    let lh : length (a ++ take i t) ≡ at + i = length_paste_head b at t i room (omega arith) in
    let n : at + k + length x ≡ length (a ++ take i t) + (e - i) = omega (arith, part_length t k e fits, lh) in
    let q : at + i + (e - i) ≡ at + e = omega arith in
    let z : k + (e - k) ≡ e = omega arith in
    let front : take (at + k) b' ≡ a ++ take k t =
    ap (take (at + k)) w
    ∙ take-append-le (at + k) (a ++ take i t) (drop (at + i) b) (omega (arith, lh))
    ∙ ap (λ (j : ℕ). take (j + k) (a ++ take i t)) (sym la)
    ∙ take-append-add a (take i t) k
    ∙ ap (λ (l : List ℕ). a ++ l) (take-take k i t low)
    in
    let back : drop (at + k + length x) b' ≡ drop (at + e) b =
    ap (drop (at + k + length x)) w
    ∙ ap (λ (j : ℕ). drop j (a ++ take i t ++ drop (at + i) b)) n
    ∙ drop-append-add (a ++ take i t) (drop (at + i) b) (e - i)
    ∙ drop-drop (e - i) (at + i) b
    ∙ ap (λ (j : ℕ). drop j b) q
    in
    let joined : take k t ++ x ≡ take e t = sym (take-add k (e - k) t) ∙ ap (λ (j : ℕ). take j t) z in
    p.written
    ∙ ap (λ (l : List ℕ). l ++ x ++ drop (at + k + length x) b') front
    ∙ ap (λ (l : List ℕ). a ++ take k t ++ x ++ l) back
    ∙ ap (λ (l : List ℕ). l ++ drop (at + e) b) (append_assoc a (take k t) x ∙ ap (λ (l : List ℕ). a ++ l) joined)

-- a text written over a buffer of its length
pub filled : {b t b' : List ℕ} {r : ℕ} → length t ≡ length b → Put b 0 t b' r → b' ≡ t
unfolding overwritten
filled {b} {t} {b'} e p =
    let k : 0 + length t ≡ length b = omega (arith, e) in
    p.written ∙ ap (λ (n : ℕ). t ++ drop n b) k ∙ ap (λ (l : List ℕ). t ++ l) (drop-length b) ∙ append-nil t

-- nothing written
pub nothing : (b : List ℕ) (at : ℕ) → Put b at [] b at
unfolding overwritten
nothing b at = record {
  place = sym (add-zero at);
  written =
      sym (ap (λ (k : ℕ). take at b ++ [] ++ drop k b) (add-zero at) ∙ ap (λ (l : List ℕ). l ++ drop at b) (append-nil (take at b)) ∙ take-append-drop at b);
}

-- a text, and another right behind it
pub behind : {b t b' u b'' : List ℕ} {at r r' : ℕ} → at ≤ length b → Put b at t b' r → Put b' r u b'' r' → Put b at (t ++ u) b'' r'
unfolding overwritten
behind {b} {t} {b'} {u} {b''} {at} {r} {r'} room p q =
    let la : length (take at b ++ t) ≡ r =
    length-append (take at b) t ∙ ap (λ (k : ℕ). k + length t) (length-take-le at b room) ∙ sym p.place
    in
    let tk : take r b' ≡ take at b ++ t = ap (take r) p.written ∙ take_at (take at b ++ t) (drop (at + length t) b) r la in
    let n : at + length t + length u ≡ at + length (t ++ u) = omega (arith, length-append t u) in
    let dr : drop (r + length u) b' ≡ drop (at + length (t ++ u)) b =
    ap (drop (r + length u)) p.written
    ∙ ap (λ (k : ℕ). drop (k + length u) (take at b ++ t ++ drop (at + length t) b)) (sym la)
    ∙ drop-append-add (take at b ++ t) (drop (at + length t) b) (length u)
    ∙ drop-drop (length u) (at + length t) b
    ∙ ap (λ (k : ℕ). drop k b) n
    in
    record {
      place = q.place ∙ ap (λ (k : ℕ). k + length u) p.place ∙ n;
      written =
          q.written
          ∙ ap (λ (l : List ℕ). l ++ u ++ drop (r + length u) b') tk
          ∙ ap (λ (l : List ℕ). take at b ++ t ++ u ++ l) dr
          ∙ ap (λ (l : List ℕ). l ++ drop (at + length (t ++ u)) b) (append_assoc (take at b) t u);
    }

-- the same from the start of a buffer on, so that a chain of calls is a chain of `⨟`
infixl 20 ◌⨟◌
pub ◌⨟◌ : {b t b' u b'' : List ℕ} {r r' : ℕ} → Put b 0 t b' r → Put b' r u b'' r' → Put b 0 (t ++ u) b'' r'
p ⨟ q = behind (omega arith) p q

-- a text, and another right before it
pub before : {b m b' h b'' : List ℕ} {start at r : ℕ} → at ≤ length b → Put b at m b' r → Put b' start h b'' at → Put b start (h ++ m) b'' r
unfolding overwritten
before {b} {m} {b'} {h} {b''} {start} {at} {r} room p q =
    let la : length (take at b) ≡ at = length-take-le at b room in
    let e : b' ≡ take at b ++ (m ++ drop (at + length m) b) = p.written ∙ append_assoc (take at b) m (drop (at + length m) b) in
    let t : take start b' ≡ take start b =
    ap (take start) e ∙ take-append-le start (take at b) (m ++ drop (at + length m) b) (omega (arith, q.place))
    ∙ take-take start at b (omega (arith, q.place))
    in
    let d : drop (start + length h) b' ≡ m ++ drop (at + length m) b =
    ap (λ (k : ℕ). drop k b') (sym q.place) ∙ ap (drop at) e ∙ drop_at (take at b) (m ++ drop (at + length m) b) at la
    in
    let n : at + length m ≡ start + length (h ++ m) = omega (arith, q.place, length-append h m) in
    record {
      place = p.place ∙ n;
      written =
          q.written
          ∙ ap (λ (l : List ℕ). l ++ h ++ drop (start + length h) b') t
          ∙ ap (λ (l : List ℕ). take start b ++ h ++ l) d
          ∙ ap (λ (k : ℕ). take start b ++ h ++ (m ++ drop k b)) n
          ∙ sym (append_assoc (take start b ++ h) m (drop (start + length (h ++ m)) b))
          ∙ ap (λ (l : List ℕ). l ++ drop (start + length (h ++ m)) b) (append_assoc (take start b) h m);
    }

-- the same with the place, or the text, under another name
pub to : {b t b' : List ℕ} {at r r' : ℕ} → Put b at t b' r → r ≡ r' → Put b at t b' r'
to p e = record { place = sym e ∙ p.place; written = p.written }

pub text : {b t t' b' : List ℕ} {at r : ℕ} → Put b at t b' r → t ≡ t' → Put b at t' b' r
text {b} {t} {t'} {b'} {at} {r} p e = subst (λ (u : List ℕ). Put b at u b' r) e p

-- what is written over the start of the part from `at` on, `&mut b[at..]`, is written into the whole once the part is back
pub part : {b t d b' : List ℕ} {n : ℕ} (at : ℕ) → at ≤ length b → Put (take (length b - at) (drop at b)) 0 t d n
    → b' ≡ take at b ++ (d ++ drop (length b - at) (drop at b)) → Put b at t b' (at + n)
unfolding overwritten
part {b} {t} {d} {b'} {n} at room p e =
    let z : drop (length b - at) (drop at b) ≡ [] = drop_of_length-le (drop at b) {i = length b - at} (omega (arith, length-drop at b)) in
    let w : take (length b - at) (drop at b) ≡ drop at b = take_all (length b - at) (drop at b) (omega (arith, length-drop at b)) in
    let k : 0 + length t ≡ length t = omega arith in
    record {
      place = ap (λ (k : ℕ). at + k) (p.place ∙ k);
      written =
          e
          ∙ ap (λ (l : List ℕ). take at b ++ (d ++ l)) z
          ∙ ap (λ (l : List ℕ). take at b ++ l) (append-nil d ∙ p.written ∙ ap (λ (l : List ℕ). t ++ drop (0 + length t) l) w)
          ∙ sym (append_assoc (take at b) t (drop (0 + length t) (drop at b)))
          ∙ ap (λ (l : List ℕ). take at b ++ t ++ l) (drop-drop (0 + length t) at b ∙ ap (λ (k : ℕ). drop (at + k) b) k);
    }
