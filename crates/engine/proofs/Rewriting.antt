-- Laws of rewriting a location: how long an address is in dotted text, where the host of a location lies, and that a good text stays one.
use Prim.Native.Nat.{ℕ, suc, ◌+◌, ◌-◌, ◌/◌, ◌%◌, ◌≤◌, ◌<◌}
use mathlib.Core.Path.{◌≡◌, refl, ap, sym, ◌∙◌}
use mathlib.Core.List.{List, [], ◌∷◌, ◌++◌, append_assoc, append-nil}
use native.Mathlib.Omega.{arith}
use mathlib.Core.Bool.{Bool, true, false, cond, ◌&&◌, and-eq-true_iff, and-false, false≢true}
use lib.Dec.{eqb, ltb}
use lib.ListN.{length, get_or, take, drop, length-append, length-drop, take-append-drop, drop_of_length-le}
use lib.Seq.{take_at, split_at, drop-drop, drop-cons, length-take-le}
use borrow.Author.Tests.{lt-ltb, le-ltb, le-leb, ltb-true, ltb-false, eqb-true}
use Rattle.text.specs.Bytes.{bytes, index_of, index_of_text, first_place, starts_with}
use Rattle.text.specs.Good.{good_text}
use Rattle.text.proofs.Finding.{index_of-le, index_of-found}
use Rattle.engine.proofs.Parts.{by_cond, rest_from}
use Rattle.engine.proofs.Splicing.{plain, Plain, plain-append, splice_end, splice_middle}
use Rattle.engine.specs.Target.{colon}
use Rattle.engine.specs.Location.{digit, decimal, decimal_dot, dotted, address_text_max, slash, scheme_end, host_length, host_start, host_end, rewritten, Rewrites}
use Rattle.text.specs.Put.{Put, overwritten}
use Rattle.text.proofs.Writing.{text}

-- the digits of a byte, by its size
pub decimal-one : (n : ℕ) → n < 10 → (digit (n % 10) ∷ []) ≡ decimal n
unfolding decimal
decimal-one n h = rw (lt-ltb _ _ h)

pub decimal-two : (n : ℕ) → 10 ≤ n → n < 100 → (digit (n / 10 % 10) ∷ digit (n % 10) ∷ []) ≡ decimal n
unfolding decimal
decimal-two n h g = rw (le-ltb _ _ h, lt-ltb _ _ g)

pub decimal-three : (n : ℕ) → 100 ≤ n → (digit (n / 100) ∷ digit (n / 10 % 10) ∷ digit (n % 10) ∷ []) ≡ decimal n
unfolding decimal
decimal-three n h =
    let g : 10 ≤ n = omega arith in
    rw (le-ltb _ _ g, le-ltb _ _ h)

-- the host by the places that the code has found
module _ (s : List ℕ) (c d : ℕ) (first-colon : c ≡ index_of colon s) (first-slash : d ≡ index_of slash s) where
  host-by : (t : Bool) → (ltb c d && ltb d (length s)) ≡ t → host_length s ≡ cond t c d
  unfolding host_length
  host-by t e = rw (← first-colon, ← first-slash, e)

  pub host-slash-first : d ≤ c → d ≡ host_length s
  host-slash-first h = sym (host-by false (ap (λ (t : Bool). t && ltb d (length s)) (le-ltb c d h)))

  pub host-no_slash : length s ≤ d → d ≡ host_length s
  host-no_slash h = sym (host-by false (ap (λ (t : Bool). ltb c d && t) (le-ltb d (length s) h) ∙ and-false (ltb c d)))

  pub host-colon-first : c < d → d < length s → c ≡ host_length s
  host-colon-first h g = sym (host-by true (rw (lt-ltb c d h, lt-ltb d (length s) g)))

pub host-le : (s : List ℕ) → host_length s ≤ length s
unfolding host_length
host-le s =
    by_cond (λ (n : ℕ). n ≤ length s) (ltb (index_of colon s) (index_of slash s) && ltb (index_of slash s) (length s)) (index_of-le 58 s) (index_of-le 47 s)

module _ (l : List ℕ) (start n : ℕ) where
  pub host-from : n ≡ host_length (take (length l - start) (drop start l)) → start + n ≡ start + host_length (drop start l)
  host-from e = ap (λ (k : ℕ). start + k) (e ∙ ap host_length (rest_from l start))

  pub host-inside : start ≤ length l → n ≡ host_length (take (length l - start) (drop start l)) → start + n ≤ length l
  host-inside h e = omega (arith, host-from e, host-le (drop start l), length-drop start l)

-- a test holds at the first place where it does
module _ (f : List ℕ → Bool) where
  place-holds : (s : List ℕ) → first_place f s < length s → f (drop (first_place f s) s) ≡ true
  unfolding first_place
  place-holds [] h = absurd (omega arith)
  place-holds (a ∷ s) h = go (f (a ∷ s)) refl (place-holds s) h
    where
      go : (t : Bool) → f (a ∷ s) ≡ t → (first_place f s < length s → f (drop (first_place f s) s) ≡ true)
          → cond t 0 (suc (first_place f s)) < suc (length s) → f (drop (cond t 0 (suc (first_place f s))) (a ∷ s)) ≡ true
      go true e k g = e
      go false e k g = k (omega arith)

starts_split : (p s : List ℕ) → starts_with p s ≡ true → s ≡ p ++ drop (length p) s
unfolding starts_with
starts_split [] s e = refl
starts_split (b ∷ p) [] e = absurd (false≢true e)
starts_split (b ∷ p) (a ∷ s) e =
    let h = (and-eq-true_iff (eqb a b) (starts_with p s)).0 e in
    ap (λ (x : ℕ). x ∷ s) (eqb-true a b h.0) ∙ ap (λ (t : List ℕ). b ∷ t) (starts_split p s h.1)

-- a location with a scheme, in its parts
pub scheme_split : (l : List ℕ) → scheme_end l < length l → l ≡ take (scheme_end l) l ++ (58 ∷ 47 ∷ 47 ∷ drop (host_start l) l)
unfolding scheme_end index_of_text bytes
scheme_split l h =
    let i = scheme_end l in
    let found : drop i l ≡ 58 ∷ 47 ∷ 47 ∷ drop 3 (drop i l) = starts_split (bytes "://") (drop i l) (place-holds (starts_with (bytes "://")) l h) in
    sym (take-append-drop i l) ∙ ap (λ (t : List ℕ). take i l ++ t) (found ∙ ap (λ (t : List ℕ). 58 ∷ 47 ∷ 47 ∷ t) (drop-drop 3 i l))

pub unchanged : (l : List ℕ) (a : ℕ) → length l ≤ scheme_end l → rewritten l a ≡ l
unfolding rewritten
unchanged l a h = rw (le-ltb (scheme_end l) (length l) h)

module _ (l : List ℕ) (i : ℕ) (found : i ≡ scheme_end l) where
  pub scheme_room : i < length l → i + 3 ≤ length l
  scheme_room h =
      let s : length l ≡ length (take (scheme_end l) l) + (3 + length (drop (host_start l) l)) =
      ap length (scheme_split l (omega (arith, found))) ∙ (length-append (take (scheme_end l) l) (58 ∷ 47 ∷ 47 ∷ drop (host_start l) l) ∙ omega arith)
      in
      omega (arith, s, length-take-le (scheme_end l) l (omega (arith, found)), found)

  pub changed : (a e : ℕ) → i < length l → e ≡ i + 3 + host_length (drop (i + 3) l) → take (i + 3) l ++ dotted a ++ take (length l - e) (drop e l) ≡ rewritten l a
  unfolding rewritten
  changed a e h d =
      let n : ltb (scheme_end l) (length l) ≡ true = lt-ltb (scheme_end l) (length l) (omega (arith, found)) in
      rw (n, rest_from l e, d, found)

-- some plain bytes, k at most
record Short (k : ℕ) (s : List ℕ) : Type 0 where
  plain : Plain s
  most : length s ≤ k

join : {j k : ℕ} {s t : List ℕ} → Short j s → Short k t → Short (j + k) (s ++ t)
join {j} {k} {s} {t} p q = record {
  plain = record { bytes = plain-append s t p.plain.bytes q.plain.bytes; some = omega (arith, length-append s t, p.plain.some) };
  most = omega (arith, length-append s t, p.most, q.most);
}

digit-plain : (d : ℕ) → d < 10 → plain (digit d) ≡ true
digit-plain d h = rw (le-leb 33 (48 + d) (omega arith), le-leb (48 + d) 126 (omega arith))

decimal-short : (n : ℕ) → n < 256 → Short 3 (decimal n)
unfolding decimal
decimal-short n h =
    let ones : plain (digit (n % 10)) ≡ true = digit-plain (n % 10) (omega arith) in
    let tens : plain (digit (n / 10 % 10)) ≡ true = digit-plain (n / 10 % 10) (omega arith) in
    let hundreds : plain (digit (n / 100)) ≡ true = digit-plain (n / 100) (omega arith) in
    by_cond (Short 3) (ltb n 10) (record { plain = record { bytes = rw ones; some = omega arith }; most = omega arith })
    (by_cond (Short 3) (ltb n 100) (record { plain = record { bytes = rw (tens, ones); some = omega arith }; most = omega arith })
    (record { plain = record { bytes = rw (hundreds, tens, ones); some = omega arith }; most = omega arith }))

dot_short : Short 1 (46 ∷ [])
dot_short = record { plain = record { bytes = refl; some = omega arith }; most = omega arith }

-- an address in dotted text
address : (a : ℕ) → Short address_text_max (dotted a)
unfolding dotted
address a =
    let part : (n : ℕ) → n < 256 → Short 4 (decimal_dot n) = λ n h. join (decimal-short n h) dot_short in
    join (join (join (part _ (omega arith)) (part _ (omega arith))) (part _ (omega arith))) (decimal-short _ (omega arith))

-- a location grows by no more than an address has
pub rewritten-length : (l : List ℕ) (a : ℕ) → length (rewritten l a) ≤ length l + address_text_max
rewritten-length l a = go (ltb (scheme_end l) (length l)) refl
  where
    go : (t : Bool) → ltb (scheme_end l) (length l) ≡ t → length (rewritten l a) ≤ length l + address_text_max
    go false e = omega (arith, ap length (unchanged l a (ltb-false _ _ e)))
    go true e =
        let h : scheme_end l < length l = ltb-true _ _ e in
        let room = scheme_room l (scheme_end l) refl h in
        let n : length (take (host_start l) l ++ dotted a ++ take (length l - host_end l) (drop (host_end l) l))
        ≡ length (take (host_start l) l) + length (dotted a) + length (take (length l - host_end l) (drop (host_end l) l)) =
        simp length-append
        in
        omega (
          arith,
          n,
          ap length (changed l (scheme_end l) refl a (host_end l) h refl),
          length-take-le (host_start l) l room,
          ap length (rest_from l (host_end l)),
          length-drop (host_end l) l,
          (address a).most,
        )

-- what is kept behind the host begins with a colon or a slash
abbrev AsciiAt : List ℕ → ℕ → Type 0
AsciiAt s n = n < length s → get_or s n 0 < 128

host-ascii : (s : List ℕ) → AsciiAt s (host_length s)
unfolding host_length
host-ascii s =
    by_cond (AsciiAt s) (ltb (index_of colon s) (index_of slash s) && ltb (index_of slash s) (length s))
    (λ h. omega (arith, index_of-found 58 s h)) (λ h. omega (arith, index_of-found 47 s h))

-- a location with a scheme before the second slash of `://`, and behind it
abbrev before-slash : List ℕ → List ℕ
before-slash l = take (scheme_end l) l ++ (58 ∷ 47 ∷ [])

abbrev behind-slash : List ℕ → List ℕ
behind-slash l = drop (host_start l) l

-- such a location in its parts, and what it becomes
module _ (l : List ℕ) (h : scheme_end l < length l) where
  was-parts : l ≡ before-slash l ++ 47 ∷ behind-slash l
  was-parts = scheme_split l h ∙ sym (append_assoc (take (scheme_end l) l) (58 ∷ 47 ∷ []) (47 ∷ behind-slash l))

  front-parts : take (host_start l) l ≡ before-slash l ++ (47 ∷ [])
  front-parts =
      let size : length (before-slash l ++ (47 ∷ [])) ≡ host_start l =
      simp length-append (omega (arith, length-take-le (scheme_end l) l (omega arith)))
      in
      ap (take (host_start l)) (was-parts ∙ sym (append_assoc (before-slash l) (47 ∷ []) (behind-slash l)))
      ∙ take_at (before-slash l ++ (47 ∷ [])) (behind-slash l) (host_start l) size

  new-parts : (a : ℕ) → rewritten l a ≡ before-slash l ++ 47 ∷ (dotted a ++ drop (host_length (behind-slash l)) (behind-slash l))
  new-parts a =
      let kept : take (length l - host_end l) (drop (host_end l) l) ≡ drop (host_length (behind-slash l)) (behind-slash l) =
      rest_from l (host_end l) ∙ sym (drop-drop (host_length (behind-slash l)) (host_start l) l)
      in
      sym (changed l (scheme_end l) refl a (host_end l) h refl)
      ∙ ap (λ (t : List ℕ). take (host_start l) l ++ dotted a ++ t) kept
      ∙ ap (λ (t : List ℕ). t ++ dotted a ++ drop (host_length (behind-slash l)) (behind-slash l)) front-parts
      ∙ append_assoc (before-slash l ++ (47 ∷ [])) (dotted a) (drop (host_length (behind-slash l)) (behind-slash l))
      ∙ append_assoc (before-slash l) (47 ∷ []) (dotted a ++ drop (host_length (behind-slash l)) (behind-slash l))

  spliced : (a : ℕ) → good_text l ≡ true → good_text (rewritten l a) ≡ true
  spliced a g = ap good_text (new-parts a) ∙ go (ltb n (length b)) refl
    where
      p : List ℕ
      p = before-slash l

      b : List ℕ
      b = behind-slash l

      n : ℕ
      n = host_length b

      was : good_text (p ++ 47 ∷ b) ≡ true
      was = ap good_text (sym was-parts) ∙ g

      go : (t : Bool) → ltb n (length b) ≡ t → good_text (p ++ 47 ∷ (dotted a ++ drop n b)) ≡ true
      go false e =
          let none : drop n b ≡ [] = drop_of_length-le b (ltb-false n (length b) e) in
          ap (λ (t : List ℕ). good_text (p ++ 47 ∷ (dotted a ++ t))) none
          ∙ ap (λ (t : List ℕ). good_text (p ++ 47 ∷ t)) (append-nil (dotted a))
          ∙ splice_end p 47 (omega arith) b (dotted a) (address a).plain was
      go true e =
          let inside : n < length b = ltb-true n (length b) e in
          ap (λ (t : List ℕ). good_text (p ++ 47 ∷ (dotted a ++ t))) (drop-cons b n 0 inside)
          ∙ splice_middle p 47 (omega arith) (take n b) (dotted a) (get_or b n 0) (drop (suc n) b) (host-ascii b inside) (address a).plain
          (ap (λ (t : List ℕ). good_text (p ++ 47 ∷ t)) (sym (split_at b n 0 inside)) ∙ was)

-- a good location stays a good text: the address stands between the second slash and what is kept, or at the end
pub rewritten-good : (l : List ℕ) (a : ℕ) → good_text l ≡ true → good_text (rewritten l a) ≡ true
rewritten-good l a g = go (ltb (scheme_end l) (length l)) refl
  where
    go : (t : Bool) → ltb (scheme_end l) (length l) ≡ t → good_text (rewritten l a) ≡ true
    go false e = ap good_text (unchanged l a (ltb-false _ _ e)) ∙ g
    go true e = spliced l (ltb-true _ _ e) a g

-- a buffer with room for a location and an address holds what is written over its start
pub rewrites : {b l b' t : List ℕ} {a r : ℕ} → length l + address_text_max ≤ length b → Put b 0 t b' r → t ≡ rewritten l a → Rewrites b l a b' r
unfolding overwritten
rewrites {b} {l} {b'} {t} {a} {r} room p e =
    let size : r ≡ length t = p.place ∙ omega arith in
    let fits : length t ≤ length b = omega (arith, ap length e, rewritten-length l a) in
    let same : length b' ≡ length t + (length b - (0 + length t)) = ap length p.written ∙ (length-append t (drop (0 + length t) b) ∙ ap (λ (n : ℕ). length t + n) (length-drop (0 + length t) b)) in
    record {
      put = text p e;
      inside = omega (arith, same, size);
      front = ap (λ (n : ℕ). take n b') size ∙ ap (take (length t)) p.written ∙ take_at t (drop (0 + length t) b) (length t) refl ∙ e;
    }
