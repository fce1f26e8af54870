-- Laws of `Sends`: runs of records written one behind the other are one run, and what is written from record 0 on is `written`.
use mathlib.Core.Path.{◌≡◌, sym, ◌∙◌, ap, subst}
use mathlib.Core.List.{List, [], ◌++◌}
use Prim.Native.Nat.{ℕ, ◌+◌, ◌-◌, ◌*◌, ◌≤◌}
use native.Mathlib.Omega.{arith}
use native.Mathlib.Nat.{add-zero, zero-add}
use lib.ListN.{length, take, drop, length-append, length-drop}
use lib.Seq.{length-take-le}
use Rattle.text.specs.Put.{Put, overwritten}
use Rattle.text.proofs.Writing as put
use Rattle.engine.specs.Sizes.{record_size}
use Rattle.engine.specs.Records.{Record, flat}
use Rattle.engine.specs.Layout.{record_bytes, layout, written, Room, Sends, Sent}
use Rattle.engine.proofs.Flat.{flat_append}
use Rattle.engine.proofs.RecordSize.{layout-length}

-- a run of records is a text written into the outbox
pub as_put : {b b' : List ℕ} {k k' : ℕ} {rs : List Record} → Sends b k rs b' k' → Put b (record_size * k) (layout rs) b' (record_size * k')
unfolding overwritten
as_put {b} {b'} {k} {k'} {rs} s =
    let place : record_size * k' ≡ record_size * k + length (layout rs) = omega (arith, s.number, layout-length rs) in
    record { place = place; written = s.bytes ∙ ap (λ (n : ℕ). take (record_size * k) b ++ layout rs ++ drop n b) place }

pub of-put : {b b' : List ℕ} {k k' : ℕ} {rs : List Record} → k' ≡ k + length rs → record_size * k' ≤ length b
    → Put b (record_size * k) (layout rs) b' (record_size * k') → Sends b k rs b' k'
unfolding overwritten
of-put {b} {b'} {k} {k'} {rs} number room p = record {
  number = number;
  room = room;
  bytes = p.written ∙ ap (λ (n : ℕ). take (record_size * k) b ++ layout rs ++ drop n b) (sym p.place);
}

pub none : {b : List ℕ} {k : ℕ} → record_size * k ≤ length b → Sends b k [] b k
unfolding layout flat
none {b} {k} room = of-put (sym (add-zero k)) room (put.nothing b (record_size * k))

-- the outbox keeps its length
pub size : {b b' : List ℕ} {k k' : ℕ} {rs : List Record} → Sends b k rs b' k' → length b' ≡ length b
size {b} {b'} {k} {k'} {rs} s =
    ap length s.bytes ∙ length-append (take (record_size * k) b ++ layout rs) (drop (record_size * k') b)
    ∙ omega (
      arith,
      length-append (take (record_size * k) b) (layout rs),
      length-take-le (record_size * k) b (omega (arith, s.number, s.room)),
      layout-length rs,
      length-drop (record_size * k') b,
      s.number,
      s.room,
    )

-- one run, and another behind it
pub next : {b b' b'' : List ℕ} {k k' k'' : ℕ} {rs ss : List Record} → Sends b k rs b' k' → Sends b' k' ss b'' k'' → Sends b k (rs ++ ss) b'' k''
unfolding layout
next {b} {b'} {b''} {k} {k'} {k''} {rs} {ss} s t =
    of-put (omega (arith, s.number, t.number, length-append rs ss)) (omega (arith, t.room, size s))
    (put.text (put.behind (omega (arith, s.number, s.room)) (as_put s) (as_put t)) (sym (flat_append record_bytes rs ss)))

-- room for two runs is room for the first, and then for the second
pub room-first : (b : List ℕ) (k : ℕ) (rs ss : List Record) → Room b k (rs ++ ss) → Room b k rs
room-first b k rs ss room = omega (arith, length-append rs ss)

pub room_next : {b b' : List ℕ} {k k' : ℕ} {rs : List Record} (ss : List Record) → Room b k (rs ++ ss) → Sends b k rs b' k' → Room b' k' ss
room_next {rs = rs} ss room s = omega (arith, length-append rs ss, size s, s.number)

-- the same records by another name
pub room_as : (b : List ℕ) (k : ℕ) {rs ss : List Record} → rs ≡ ss → Room b k rs → Room b k ss
room_as b k e h = omega (arith, ap length e)

pub of : {b b' : List ℕ} {k k' : ℕ} {rs ss : List Record} → rs ≡ ss → Sends b k rs b' k' → Sends b k ss b' k'
of {b} {b'} {k} {k'} e s = subst (λ (x : List Record). Sends b k x b' k') e s

-- from the first record on
pub whole : {b b' : List ℕ} {k' : ℕ} {rs : List Record} → Sends b 0 rs b' k' → b' ≡ written rs b
unfolding written
whole {b} {b'} {k'} {rs} s =
    let end : record_size * k' ≡ length (layout rs) = omega (arith, s.number, layout-length rs) in
    s.bytes ∙ ap (λ (n : ℕ). layout rs ++ drop n b) end

pub sent : {b b' : List ℕ} {n : ℕ} {rs : List Record} → Sends b 0 rs b' n → Sent rs b b' n
sent {rs = rs} s = record { number = s.number ∙ zero-add (length rs); bytes = whole s }

-- ---- what is written into the part of the outbox from record k on, `&mut outbox[record_size * k..]`, is written into the whole once the part is back
sent-put : {p d : List ℕ} {n : ℕ} {rs : List Record} → Sent rs p d n → Put p 0 (layout rs) d (record_size * n)
unfolding overwritten written
sent-put {p} {rs = rs} s = record {
  place = omega (arith, s.number, layout-length rs);
  written = s.bytes ∙ ap (λ (n : ℕ). layout rs ++ drop n p) (sym (zero-add (length (layout rs))));
}

abbrev pub rest : ℕ → List ℕ → List ℕ
rest k b = take (length b - record_size * k) (drop (record_size * k) b)

-- the outbox b with d in the place of that part
abbrev pub Back : List ℕ → ℕ → List ℕ → List ℕ → Type 0
Back b k d b' = b' ≡ take (record_size * k) b ++ (d ++ drop (length b - record_size * k) (drop (record_size * k) b))

pub rest-room : (k : ℕ) (b : List ℕ) (rs : List Record) → Room b k rs → Room (rest k b) 0 rs
rest-room k b rs room = omega (arith, length-take-le (length b - record_size * k) (drop (record_size * k) b) (omega (arith, length-drop (record_size * k) b)))

pub part : {b b' d : List ℕ} (k : ℕ) {n : ℕ} {rs : List Record} → Room b k rs → Sent rs (rest k b) d n → Back b k d b'
    → Sends b k rs b' (k + n)
part {b} {b'} {d} k {n} {rs} room s e =
    let end : record_size * k + record_size * n ≡ record_size * (k + n) = omega arith in
    of-put (ap (λ (m : ℕ). k + m) s.number) (omega (arith, s.number)) (put.to (put.part (record_size * k) (omega (arith, room)) (sent-put s) e) end)

-- from the first record on, and the other way round
pub of-sent : {b b' : List ℕ} {n : ℕ} {rs : List Record} → Room b 0 rs → Sent rs b b' n → Sends b 0 rs b' n
of-sent {rs = rs} room s = of-put (omega (arith, s.number)) (omega (arith, s.number)) (sent-put s)

-- one run, and another in the part behind it
pub both : {b b' b'' d : List ℕ} {k n : ℕ} {rs ss : List Record} → Room b 0 (rs ++ ss) → Sent rs b b' k → Sent ss (rest k b') d n → Back b' k d b''
    → Sent (rs ++ ss) b b'' (k + n)
both {b} {k = k} {rs = rs} {ss = ss} room s t e =
    let first = of-sent (room-first b 0 rs ss room) s in
    sent (next first (part k (room_next ss room first) t e))

pub both-fit : {b b' : List ℕ} {k : ℕ} {rs : List Record} (ss : List Record) → Room b 0 (rs ++ ss) → Sent rs b b' k → record_size * k ≤ length b
both-fit {rs = rs} ss room s = omega (arith, length-append rs ss, s.number)

pub both-fits : {b b' p d : List ℕ} {k n : ℕ} {rs ss : List Record} → Room b 0 (rs ++ ss) → Sent rs b b' k → Sent ss p d n → record_size * (k + n) ≤ length b
both-fits {rs = rs} {ss = ss} room s t = omega (arith, length-append rs ss, s.number, t.number)

pub both-room : {b b' : List ℕ} {k : ℕ} {rs : List Record} (ss : List Record) → Room b 0 (rs ++ ss) → Sent rs b b' k → Room (rest k b') 0 ss
both-room {b} {b'} {k} {rs} ss room s = rest-room k b' ss (room_next ss room (of-sent (room-first b 0 rs ss room) s))

-- the same records by another name, and none
pub sent-as : {b b' : List ℕ} {n : ℕ} {rs ss : List Record} → Sent rs b b' n → rs ≡ ss → Sent ss b b' n
sent-as {b} {b'} {n} s e = subst (λ (x : List Record). Sent x b b' n) e s

pub sent-nothing : (b : List ℕ) → Sent [] b b 0
sent-nothing b = sent (none (omega arith))
