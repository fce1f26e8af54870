-- One record: a build function writes the message into the part of the outbox behind the head, and head and zeros go round it.
use mathlib.Core.Path.{◌≡◌, refl, sym, ◌∙◌, ap, subst}
use mathlib.Core.Bool.{Bool, true, false, cond, not, ◌||◌}
use mathlib.Core.List.{List, [], ◌∷◌, ◌++◌, append_assoc, append-nil}
use Prim.Native.Nat.{ℕ, ◌+◌, ◌-◌, ◌*◌, ◌≤◌}
use native.Mathlib.Omega.{arith}
use native.Mathlib.Nat.{zero-add}
use borrow.Author.Tests.{le-ltb}
use lib.Dec.{ltb, eqb}
use lib.ListN.{length, take, drop, replicate, length-append, length-drop, length-replicate, take-append-drop}
use lib.Seq.{length-take-le, take-add, take-append-le, take-take, drop-append-add, drop-drop, drop_at, take-append_seam}
use Rattle.text.specs.Put.{Put, overwritten}
use Rattle.message.specs.Refusals.{accepted}
use Rattle.message.specs.Build.{Built, built as answered, any_over_size, any_not_good, located_texts, build_refusal, Builds}
use Rattle.std.specs.Prelude.{Result, Ok, Err}
use Rattle.std.specs.Result.{result_unwrap_or}
use Rattle.message.specs.declared.build.BuildError.{BuildError}
use Rattle.text.proofs.Writing as put
use Rattle.engine.specs.Sizes.{record_size, head_size}
use Rattle.engine.specs.Records.{Record, flat}
use Rattle.engine.specs.Layout.{texts_of, text_of, message_of, destination_of, source_of, head_of, framed, record_bytes, layout, Sends}
use Rattle.engine.specs.declared.advertisement.Endpoint.{Endpoint}
use Rattle.engine.proofs.RecordSize.{text-fits, message-fits}
use Rattle.engine.proofs.Sending.{of-put}

-- what a text is written into keeps its length
put-size : {b t b' : List ℕ} {at r : ℕ} → r ≤ length b → Put b at t b' r → length b' ≡ length b
unfolding overwritten
put-size {b} {t} {b'} {at} {r} room p =
    ap length p.written
    ∙ length-append (take at b ++ t) (drop (at + length t) b)
    ∙ omega (arith, length-append (take at b) t, length-take-le at b (omega (arith, p.place)), length-drop (at + length t) b, p.place)

-- what stands at a place may be said to have been written there
pub standing : (b : List ℕ) (at n : ℕ) → at + n ≤ length b → Put b at (take n (drop at b)) b (at + n)
unfolding overwritten
standing b at n room =
    let long : length (take n (drop at b)) ≡ n = length-take-le n (drop at b) (omega (arith, length-drop at b)) in
    record {
      place = ap (λ (k : ℕ). at + k) (sym long);
      written =
          sym (take-append-drop (at + n) b)
          ∙ ap (λ (l : List ℕ). l ++ drop (at + n) b) (take-add at n b)
          ∙ ap (λ (k : ℕ). take at b ++ take n (drop at b) ++ drop (at + k) b) (sym long);
    }

-- a text written over an earlier one and beyond it
pub covers : {b m b' t b'' : List ℕ} {at r start end : ℕ} → at ≤ length b → start ≤ at → r ≤ end → Put b at m b' r → Put b' start t b'' end → Put b start t b'' end
unfolding overwritten
covers {b} {m} {b'} {t} {b''} {at} {r} {start} {end} room before behind p q =
    let old = take at b ++ m in
    let rest = drop (at + length m) b in
    let long : length old ≡ r = length-append (take at b) m ∙ ap (λ (k : ℕ). k + length m) (length-take-le at b room) ∙ sym p.place in
    let front : take start b' ≡ take start b =
    ap (take start) (p.written ∙ append_assoc (take at b) m rest)
    ∙ take-append-le start (take at b) (m ++ rest) (omega (arith, length-take-le at b room))
    ∙ take-take start at b before
    in
    let beyond : start + length t ≡ length old + (end - r) = omega (arith, q.place) in
    let whole : at + length m + (end - r) ≡ start + length t = omega (arith, q.place, p.place) in
    let back : drop (start + length t) b' ≡ drop (start + length t) b =
    ap (drop (start + length t)) p.written
    ∙ ap (λ (k : ℕ). drop k (old ++ rest)) beyond
    ∙ drop-append-add old rest (end - r)
    ∙ drop-drop (end - r) (at + length m) b
    ∙ ap (λ (k : ℕ). drop k b) whole
    in
    record {
      place = q.place;
      written =
          q.written
          ∙ ap (λ (l : List ℕ). l ++ t ++ drop (start + length t) b') front
          ∙ ap (λ (l : List ℕ). take start b ++ t ++ l) back;
    }

-- and what was written at a place stands there
pub there : {b m b' : List ℕ} {at r n : ℕ} → at ≤ length b → n ≡ length m → Put b at m b' r → take n (drop at b') ≡ m
unfolding overwritten
there {b} {m} {b'} {at} {r} {n} room e p =
    let rest = drop (at + length m) b in
    ap (λ (l : List ℕ). take n (drop at l)) (p.written ∙ append_assoc (take at b) m rest)
    ∙ ap (take n) (drop_at (take at b) (m ++ rest) at (length-take-le at b room))
    ∙ ap (λ (k : ℕ). take k (m ++ rest)) e
    ∙ take-append_seam m rest

-- head and zeros, round the message that stands between them
pub framing : {b b' b'' h : List ℕ} {at end : ℕ} (k len source : ℕ) (to : Endpoint) → record_size * (k + 1) ≤ length b → len ≤ record_size - head_size
    → h ≡ head_of to source len → Put b (record_size * k) h b' at → Put b' (at + len) (replicate (record_size - head_size - len) 0) b'' end
    → Put b (record_size * k) (framed to source (take len (drop (record_size * k + head_size) b))) b'' (record_size * (k + 1))
unfolding framed head_of
framing {b} {b'} {b''} {h} {at} {end} k len source to room fits e p q =
    let start = record_size * k in
    let place : at ≡ start + head_size = p.place ∙ ap (λ (l : List ℕ). start + length l) e in
    let m = take len (drop at b) in
    let long : length m ≡ len = length-take-le len (drop at b) (omega (arith, length-drop at b)) in
    let last : end ≡ record_size * (k + 1) = omega (arith, q.place, length-replicate {A = ℕ} (record_size - head_size - len) 0) in
    let all = put.to (put.behind (omega arith) (put.before (omega arith) (standing b at len (omega arith)) p) q) last in
    put.text all
    (ap (λ (l : List ℕ). l ++ m ++ replicate (record_size - head_size - len) 0) e
    ∙ ap (λ (n : ℕ). head_of to source n ++ m ++ replicate (record_size - head_size - n) 0) (sym long)
    ∙ ap (λ (n : ℕ). framed to source (take len (drop n b))) place)

-- a location by another name
pub located : {service name url url' buffer after : List ℕ} {answer : Built} (text : List ℕ → List ℕ) → url ≡ url'
    → Builds (located_texts service name url) (text url) buffer after answer → Builds (located_texts service name url') (text url') buffer after answer
located {service} {name} {url} {url'} {buffer} {after} {answer} text e b =
    subst (λ (u : List ℕ). Builds (located_texts service name u) (text u) buffer after answer) e b

-- the length that a build answers; 0 where it is refused
pub length_built : {n : ℕ} (r : Result ℕ BuildError) → n ≡ result_unwrap_or r 0 → n ≡ (answered r).len
length_built (Ok m) e = e
length_built (Err x) e = e

-- ---- what a build function leaves of a record's message in a buffer that has room for any
module _ (r : Record) {buffer after : List ℕ} {answer : Built} (room : record_size - head_size ≤ length buffer) (builds : Builds (texts_of r) (text_of r) buffer after answer) where
  -- a message whose texts are taken is no longer than the buffer
  taken : eqb answer.refusal accepted ≡ not (any_over_size (texts_of r) || any_not_good (texts_of r))
  unfolding build_refusal
  taken = ap (λ (n : ℕ). eqb n accepted) builds.refusal ∙ go (any_over_size (texts_of r)) (any_not_good (texts_of r)) (text-fits r)
    where
      go : (over bad : Bool) → (over ≡ false → length (text_of r) ≤ record_size - head_size)
          → eqb (cond over 3 (cond bad 4 (cond (ltb (length buffer) (length (text_of r))) 6 0))) 0 ≡ not (over || bad)
      go true bad h = refl
      go false true h = refl
      go false false h = rw (le-ltb (length buffer) (length (text_of r)) (omega (arith, h refl)))

  pub built : Put buffer 0 (message_of r) after answer.len
  unfolding message_of overwritten
  built =
      go (any_over_size (texts_of r) || any_not_good (texts_of r))
      (builds.len ∙ ap (λ (t : Bool). cond t (length (text_of r)) 0) taken)
      (builds.written ∙ ap (λ (t : Bool). cond t (text_of r ++ drop (length (text_of r)) buffer) buffer) taken)
    where
      go : (no : Bool) → answer.len ≡ cond (not no) (length (text_of r)) 0
          → after ≡ cond (not no) (text_of r ++ drop (length (text_of r)) buffer) buffer
          → Put buffer 0 (cond no [] (text_of r)) after answer.len
      go true l w = record { place = l; written = w }
      go false l w = record { place = omega (arith, l); written = w ∙ ap (λ (n : ℕ). text_of r ++ drop n buffer) (sym (zero-add (length (text_of r)))) }

-- ---- a record's message, built in the part from `at` on, with head and zeros round it
abbrev pub body_at : ℕ → ℕ
body_at k = record_size * k + head_size

module _ (r : Record) (k : ℕ) (b : List ℕ) {d b' : List ℕ} (answer : Result ℕ BuildError) {n : ℕ} (room : record_size * (k + 1) ≤ length b)
    (builds : Builds (texts_of r) (text_of r) (take (length b - body_at k) (drop (body_at k) b)) d (answered answer))
    (back : b' ≡ take (body_at k) b ++ (d ++ drop (length b - body_at k) (drop (body_at k) b))) (long : n ≡ result_unwrap_or answer 0) where
  message : Put b (body_at k) (message_of r) b' (body_at k + n)
  message =
      let part : record_size - head_size ≤ length (take (length b - body_at k) (drop (body_at k) b)) =
      omega (arith, length-take-le (length b - body_at k) (drop (body_at k) b) (omega (arith, length-drop (body_at k) b)))
      in
      rw (length_built answer long) (put.part (body_at k) (omega arith) (built r part builds) back)

  fits : n ≤ record_size - head_size
  fits = omega (arith, message.place, message-fits r)

  -- what the frame asks for
  pub frame-room : (record_size * (k + 1) ≤ length b') × (n ≤ record_size - head_size)
  frame-room = (omega (arith, put-size (omega (arith, message.place, fits)) message), fits)

  pub sent : {b'' : List ℕ} → Put b' (record_size * k) (framed (destination_of r) (source_of r) (take n (drop (body_at k) b'))) b'' (record_size * (k + 1))
      → Sends b k (r ∷ []) b'' (k + 1)
  unfolding layout flat record_bytes
  sent {b''} p =
      let long : n ≡ length (message_of r) = omega (arith, message.place) in
      let text = there (omega arith) long message in
      of-put refl room
      (put.text (covers (omega arith) (omega arith) (omega (arith, fits)) message p)
      (ap (framed (destination_of r) (source_of r)) text ∙ sym (append-nil (framed (destination_of r) (source_of r) (message_of r)))))
