-- However the input is cut into chunks: what a run writes, all in a row, is what the program prints for the whole input.
use mathlib.Core.Path.{◌≡◌, refl, sym, ◌∙◌, ap}
use Rattle.std.proofs.Common.{None}
use mathlib.Core.List.{List, [], ◌++◌, append_assoc, append-nil}
use Prim.Native.Nat.{ℕ}
use lib.ListN.{drop}
use Rattle.text.specs.Lines.{lines}
use Rattle.console.specs.Input.{input}
use Rattle.program.specs.Program.{printed, program}
use Rattle.program.specs.Steps.{due_of, to_print}
use Rattle.program.specs.Runs.{Moment, remains, PrintsDue, none-due, piece, Chunk, used_up, part, Run, end, chunk, joined}

due-prints : {m m' : Moment} {text : List ℕ} → PrintsDue m m' text → (later : List ℕ) → remains m later ≡ text ++ remains m' later
due-prints (none-due p) later = refl
due-prints (piece {s} {s'} {e} {line} {outbox} {text} {more} {m} t r) later =
    t.prints e line later ∙ ap (λ (l : List ℕ). text ++ l) (due-prints r later) ∙ sym (append_assoc text more (remains m later))

due-printed : {m m' : Moment} {text : List ℕ} → PrintsDue m m' text → m'.state.printing ≡ None
due-printed (none-due p) = p
due-printed (piece t r) = due-printed r

due-held : {m m' : Moment} {text : List ℕ} → PrintsDue m m' text → m'.state.held ≡ m.state.held
due-held (none-due p) = refl
due-held (piece t r) = due-held r ∙ t.held

pub chunk-prints : {m m' : Moment} {c text : List ℕ} → Chunk m c m' text → (later : List ℕ) → remains m (c ++ later) ≡ text ++ remains m' later
chunk-prints used_up later = refl
chunk-prints (part {s} {s'} {e} {e'} {line} {line'} {outbox} {outbox'} {chunk = c} {text} {more} {rest} {used} {m} {m'} t u r) later =
    t.prints later
    ∙ ap (λ (l : List ℕ). text ++ l)
    (due-prints u (drop used c ++ later) ∙ ap (λ (l : List ℕ). more ++ l) (chunk-prints r later) ∙ sym (append_assoc more rest (remains m' later)))
    ∙ sym (append_assoc text (more ++ rest) (remains m' later))

-- nothing is left of a program that has finished
nothing_left : (m : Moment) → m.state.printing ≡ None → m.state.held ≡ 0 → remains m [] ≡ []
unfolding to_print due_of input lines printed
nothing_left m p q = rw (p, q) refl

pub run-prints : {m : Moment} {cs : List (List ℕ)} {text : List ℕ} → Run m cs text → remains m (joined cs) ≡ text
run-prints (end {s} {s'} {e} {e'} {line} {outbox} {outbox'} {text} {more} {m} f t) =
    f.prints
    ∙ ap (λ (l : List ℕ). text ++ l) (due-prints t [] ∙ ap (λ (l : List ℕ). more ++ l) (nothing_left m (due-printed t) (due-held t ∙ f.held)) ∙ append-nil more)
run-prints (chunk {m} {m'} {c} {text} {rest} {cs} t r) = chunk-prints t (joined cs) ∙ ap (λ (l : List ℕ). text ++ l) (run-prints r)

-- from the program's start on
start-prints : (m : Moment) (later : List ℕ) → m.state.lent ≡ None → m.state.held ≡ 0 → m.state.printing ≡ None → remains m later ≡ program m.state.traced later
unfolding to_print due_of program
start-prints m later b h t = rw (t, b, h) refl

pub whole : {m : Moment} {cs : List (List ℕ)} {text : List ℕ} → m.state.lent ≡ None → m.state.held ≡ 0 → m.state.printing ≡ None → Run m cs text → text ≡ program m.state.traced (joined cs)
whole {m} {cs} b h t r = sym (run-prints r) ∙ start-prints m (joined cs) b h t
