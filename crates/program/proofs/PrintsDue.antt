-- Laws of printing an answer piece by piece.
use mathlib.Core.Path.{◌≡◌, refl, sym, ◌∙◌, ap}
use mathlib.Core.Bool.{Bool, true, false, cond}
use mathlib.Core.List.{List, [], ◌++◌, append_assoc, append-nil}
use Prim.Native.Nat.{ℕ, suc, ◌+◌, ◌-◌, ◌*◌, ◌/◌, ◌≤◌, ◌<◌}
use native.Mathlib.Omega.{arith}
use native.Mathlib.Numerals.{add-one}
use Rattle.std.proofs.Common.{Option, Some, None}
use lib.Dec.{ltb}
use lib.ListN.{length, take, drop, length-take}
use Rattle.text.specs.Bytes.{bytes}
use Rattle.console.specs.Buffer.{Appends}
use Rattle.console.proofs.Appending as laws
use Rattle.console.specs.Input.{input}
use Rattle.engine.specs.Sizes.{record_size}
use Rattle.engine.specs.Arrays.{Engine}
use Rattle.dialogue.specs.Printing.{record_line}
use Rattle.dialogue.specs.Outbox.{record_at, clean}
use Rattle.program.specs.Program.{record_lines, stain, printed}
use Rattle.program.specs.Steps.{piece_max, due_of, session_in, to_print, PrintsPiece}
use Rattle.program.specs.declared.state.State.{State}
use Rattle.program.specs.declared.state.Printing.{Printing}

-- a text that was appended to nothing, with room for it
pub written-whole : {u b b' : List ℕ} {r : ℕ} → Appends u b 0 b' r → length u ≤ length b → take r b' ≡ u
written-whole {u} {b} {b'} {r} p h = laws.whole (laws.filled p) (omega (arith, p.room))

-- a record has its size, or is none
record-size : (k : ℕ) (outbox : List ℕ) → length (record_at k outbox) ≤ record_size
unfolding record_at
record-size k outbox = go (ltb k (length outbox / record_size))
  where
    go : (t : Bool) → length (cond t (take record_size (drop (record_size * k) outbox)) []) ≤ record_size
    go true = omega (arith, length-take record_size (drop (record_size * k) outbox))
    go false = omega arith

pub record-fits : (k : ℕ) (outbox : List ℕ) {s : List ℕ} {n : ℕ} → s ≡ record_at k outbox → length (record_line s) ≤ 47 + 2 * length s → piece_max ≤ n → length (record_line s) ≤ n
record-fits k outbox {s} e h g = omega (arith, record-size k outbox, ap length e)

pub stain-none : {b : Bool} (n : ℕ) (outbox : List ℕ) → b ≡ clean n outbox → b ≡ true → [] ≡ stain n outbox
unfolding stain
stain-none n outbox p q = rw (sym p ∙ q)

pub stain-some : {b : Bool} (n : ℕ) (outbox : List ℕ) → b ≡ clean n outbox → b ≡ false → bytes "!\n" ≡ stain n outbox
unfolding stain
stain-some n outbox p q = rw (sym p ∙ q)

lines_more : (n k : ℕ) (outbox : List ℕ) → k < n → record_lines (n - k) k outbox ≡ record_line (record_at k outbox) ++ record_lines (n - (k + 1)) (k + 1) outbox
unfolding record_lines
lines_more n k outbox h =
    let m : n - k ≡ suc (n - (k + 1)) = omega arith in
    ap (λ (x : ℕ). record_lines x k outbox) m ∙ ap (λ (x : ℕ). record_line (record_at k outbox) ++ record_lines (n - (k + 1)) x outbox) (sym (add-one k))

lines_none : (n k : ℕ) (outbox : List ℕ) → n ≤ k → record_lines (n - k) k outbox ≡ []
unfolding record_lines
lines_none n k outbox h = let m : n - k ≡ 0 = omega arith in ap (λ (x : ℕ). record_lines x k outbox) m

due-record : (p : Printing) (outbox : List ℕ) → p.next < p.records → due_of (Some p) outbox ≡ record_line (record_at p.next (take p.room outbox)) ++ due_of (Some (record p { next = p.next + 1 })) outbox
unfolding due_of
due-record p outbox h =
    let o = take p.room outbox in
    ap (λ (l : List ℕ). l ++ stain p.records o) (lines_more p.records p.next o h)
    ∙ append_assoc (record_line (record_at p.next o)) (record_lines (p.records - (p.next + 1)) (p.next + 1) o) (stain p.records o)

due-last : (p : Printing) (outbox : List ℕ) → p.records ≤ p.next → due_of (Some p) outbox ≡ stain p.records (take p.room outbox) ++ due_of None outbox
unfolding due_of
due-last p outbox h =
    let o = take p.room outbox in
    ap (λ (l : List ℕ). l ++ stain p.records o) (lines_none p.records p.next o h) ∙ sym (append-nil (stain p.records o))

-- a piece of what is due, and the rest of it
prints : (s : State) (outbox : List ℕ) {p : Printing} (p' : Option Printing) {text piece : List ℕ} → s.printing ≡ Some p → due_of (Some p) outbox ≡ piece ++ due_of p' outbox → text ≡ piece
    → (e : Engine) (line later : List ℕ) → to_print s e line outbox later ≡ text ++ to_print (record s { printing = p' }) e line outbox later
unfolding to_print
prints s outbox p' {text} {piece} t d q e line later =
    let rest = printed s.traced (session_in s e) (input (take s.held line ++ later)) in
    ap (λ (l : List ℕ). l ++ rest) (ap (λ (x : Option Printing). due_of x outbox) t ∙ d ∙ ap (λ (l : List ℕ). l ++ due_of p' outbox) (sym q)) ∙ append_assoc text (due_of p' outbox) rest

pub prints-record : (s : State) (outbox : List ℕ) {p : Printing} {text : List ℕ} → s.printing ≡ Some p → p.next < p.records
    → text ≡ record_line (record_at p.next (take p.room outbox)) → PrintsPiece s outbox (record s { printing = Some (record p { next = p.next + 1 }) }) text
prints-record s outbox {p} t h q =
    let rest = Some (record p { next = p.next + 1 }) in
    record { held = refl; fewer = rw t (omega arith); prints = prints s outbox rest t (due-record p outbox h) q }

pub prints-last : (s : State) (outbox : List ℕ) {p : Printing} {text : List ℕ} → s.printing ≡ Some p → p.records ≤ p.next
    → text ≡ stain p.records (take p.room outbox) → PrintsPiece s outbox (record s { printing = None }) text
prints-last s outbox {p} t h q = record { held = refl; fewer = rw t (omega arith); prints = prints s outbox None t (due-last p outbox h) q }
