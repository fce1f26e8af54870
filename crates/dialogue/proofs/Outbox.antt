-- Laws of records in the outbox as `trace` reads them.
use mathlib.Core.Path.{◌≡◌, ◌∙◌, ap}
use mathlib.Core.List.{List, []}
use mathlib.Core.Bool.{Bool, true, ◌&&◌}
use Prim.Native.Nat.{ℕ, ◌+◌, ◌*◌, ◌-◌, ◌/◌, ◌≤◌, ◌<◌}
use native.Mathlib.Omega.{arith}
use borrow.Author.Tests.{lt-ltb, le-ltb}
use lib.Dec.{eqb}
use lib.ListN.{length, get_or, take, drop, length-drop}
use lib.Seq.{take_all}
use Rattle.console.specs.Each.{all}
use Rattle.engine.specs.Sizes.{record_size}
use Rattle.dialogue.specs.Printing.{number_at}
use Rattle.dialogue.specs.Outbox.{record_at, all_padded, clean, mark}

-- two bytes of what follows byte `at`
pub number-at : {a b : ℕ} (at : ℕ) {rest : List ℕ} (s : List ℕ) → rest ≡ drop at s → a ≡ get_or rest 0 0 → b ≡ get_or rest 1 0 → 256 * a + b ≡ number_at at s
unfolding number_at
number-at {a} {b} at {rest} s p q r =
    ap (λ (x : ℕ). 256 * x + b) q ∙ ap (λ (x : ℕ). 256 * get_or rest 0 0 + x) r ∙ ap (λ (x : List ℕ). 256 * get_or x 0 0 + get_or x 1 0) p

-- a record that the outbox has no room for, and one that it has
pub no_record : (k : ℕ) (outbox : List ℕ) → length outbox / record_size ≤ k → record_at k outbox ≡ []
unfolding record_at
no_record k outbox h = rw (le-ltb k (length outbox / record_size) h)

pub whole-record : (k : ℕ) (outbox : List ℕ) → k < length outbox / record_size → record_at k outbox ≡ take (record_size * k + record_size - record_size * k) (drop (record_size * k) outbox)
unfolding record_at
whole-record k outbox h =
    let n : record_size ≡ record_size * k + record_size - record_size * k = omega arith in
    rw (lt-ltb k (length outbox / record_size) h) (ap (λ (x : ℕ). take x (drop (record_size * k) outbox)) n)

-- more records than there is room for, and others
pub clean-over : (n : ℕ) (outbox : List ℕ) → length outbox / record_size < n → true ≡ clean n outbox
unfolding clean
clean-over n outbox h = rw (lt-ltb (length outbox / record_size) n h)

pub clean-rest : {b p : Bool} (n : ℕ) (outbox : List ℕ) → n ≤ length outbox / record_size → b ≡ all (eqb mark) (take (length outbox - record_size * n) (drop (record_size * n) outbox)) →
    p ≡ all_padded n outbox → b && p ≡ clean n outbox
unfolding clean
clean-rest {b} {p} n outbox h q r =
    let rest = drop (record_size * n) outbox in
    let whole = take_all (length outbox - record_size * n) rest (omega (arith, length-drop (record_size * n) outbox)) in
    rw (le-ltb (length outbox / record_size) n h)
    (ap (λ (x : Bool). x && p) (q ∙ ap (all (eqb mark)) whole) ∙ ap (λ (x : Bool). all (eqb mark) rest && x) r)
