-- How long the printed lines can be.
use mathlib.Core.Path.{◌≡◌, ap}
use mathlib.Core.List.{List, [], ◌∷◌, ◌++◌}
use Prim.Native.Nat.{ℕ, ◌+◌, ◌*◌, ◌≤◌, ◌<◌}
use native.Mathlib.Omega.{arith}
use lib.ListN.{length, take, drop, length-append, length-take, length-drop}
use Rattle.text.specs.Bytes.{bytes}
use Rattle.console.specs.Each.{each}
use Rattle.console.specs.Decimal.{number_then}
use Rattle.console.specs.Address.{address_then}
use Rattle.console.specs.Hexadecimal.{hex_text}
use Rattle.console.proofs.Lengths.{tens, Numbers, none, more, number-most, numbers-most, hex_length}
use Rattle.engine.specs.Sizes.{head_size}
use Rattle.engine.specs.declared.answer.Answer.{Answer}
use Rattle.dialogue.specs.Printing.{answer_line, news_line, number_at, head_line, record_line}

pub answer-most : (a : Answer) → a.refusal < tens 20 → a.records < tens 20 → a.matched < tens 20 → a.joined < tens 20 → a.alone < tens 20 → a.group < tens 20 → a.dropped < tens 20
    → a.waiting < tens 20 → a.poll < tens 20 → length (answer_line a) ≤ 189
unfolding answer_line
answer-most a h₀ h₁ h₂ h₃ h₄ h₅ h₆ h₇ h₈ =
    let ns = a.refusal ∷ a.records ∷ a.matched ∷ a.joined ∷ a.alone ∷ a.group ∷ a.dropped ∷ a.waiting ∷ [] in
    let few : Numbers ns =
    more {n = a.refusal} h₀ (more {n = a.records} h₁ (more {n = a.matched} h₂ (more {n = a.joined} h₃ (more {n = a.alone} h₄ (more {n = a.group} h₅ (more {n = a.dropped} h₆ (more {n = a.waiting} h₇ none)))))))
    in
    omega (arith, numbers-most 9 few, number-most 19 10 a.poll h₈, length-append (each (number_then 9) ns) (number_then 10 a.poll))

pub news_most : (a : Answer) → a.mask < tens 10 → a.told < tens 10 → a.leave < tens 10 → length (news_line a) ≤ 35
unfolding news_line bytes
news_most a h g k =
    let x = number_then 32 a.mask in
    let y = number_then 32 a.told in
    let z = number_then 10 a.leave in
    omega (arith, number-most 9 32 a.mask h, number-most 9 32 a.told g, number-most 9 10 a.leave k, length-append x (y ++ z), length-append y z)

pub head-most : {r : ℕ} {rest : List ℕ} (s : List ℕ) → length (address_then 32 s) ≤ 16 → r ≡ number_at 4 s → r < 65536 → rest ≡ drop 6 s → length (address_then 32 rest) ≤ 16 → length (head_line s) ≤ 40
unfolding head_line bytes
head-most s h e g p k =
    let x = address_then 32 s in
    let y = number_then 32 (number_at 4 s) in
    let z = address_then 32 (drop 6 s) in
    omega (arith, number-most 4 32 (number_at 4 s) (omega (arith, e)), ap (λ (l : List ℕ). length (address_then 32 l)) p, length-append x (y ++ z), length-append y z)

pub record-most : {r : ℕ} (s : List ℕ) → length (head_line s) ≤ 40 → r ≡ number_at 10 s → r < 65536 → length (record_line s) ≤ 47 + 2 * length s
unfolding record_line
record-most s h e g =
    let n = number_at 10 s in
    let m = take n (drop head_size s) in
    let x = number_then 32 n in
    let y = hex_text m in
    omega (arith, number-most 4 32 n (omega (arith, e)), hex_length m, length-take n (drop head_size s), length-drop head_size s, length-append (head_line s) (x ++ (y ++ (10 ∷ []))), length-append x (y ++ (10 ∷ [])), length-append y (10 ∷ []))
