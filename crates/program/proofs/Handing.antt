-- Laws of steps one after the other.
use mathlib.Core.Path.{◌≡◌, refl, sym, ◌∙◌, ap, subst}
use Rattle.std.proofs.Common.{None}
use mathlib.Core.List.{List, [], ◌++◌, append_assoc}
use Prim.Native.Nat.{ℕ, ◌+◌, ◌≤◌}
use native.Mathlib.Omega.{arith}
use lib.ListN.{length, take, drop}
use Rattle.console.specs.Input.{line_max, Pending}
use Rattle.engine.specs.Arrays.{Engine}
use Rattle.console.specs.Command.{outbox_max}
use Rattle.program.specs.Steps.{piece_max, to_print, Ready, Takes, PrintsPiece, Hands, Reads}
use Rattle.program.specs.declared.state.State.{State}
use Rattle.program.proofs.Taking.{nothing-held}

-- nothing was done
pub none : (s : State) (e : Engine) (line outbox whole : List ℕ) → Hands s e line outbox whole s e line outbox whole
none s e line outbox whole = record { text = []; prints = λ later. refl }

-- one, and another behind it
infixl 20 ◌⨟◌
pub ◌⨟◌ : {s s' s'' : State} {e e' e'' : Engine} {l l' l'' o o' o'' x y z : List ℕ} → Hands s e l o x s' e' l' o' y → Hands s' e' l' o' y s'' e'' l'' o'' z → Hands s e l o x s'' e'' l'' o'' z
◌⨟◌ {s'' = s''} {e'' = e''} {l'' = l''} {o'' = o''} {z = z} p q = record {
  text = p.text ++ q.text;
  prints = λ later.
      p.prints later ∙ ap (λ (t : List ℕ). p.text ++ t) (q.prints later) ∙ sym (append_assoc p.text q.text (to_print s'' e'' l'' o'' (z ++ later)));
}

pub took : {s s' : State} {e e' : Engine} {l l' o o' chunk text : List ℕ} {used : ℕ} → Takes s e l o chunk s' e' l' o' used text → Hands s e l o chunk s' e' l' o' (drop used chunk)
took {text = text} t = record { text = text; prints = t.prints }

pub printed-piece : {s s' : State} {o text : List ℕ} → PrintsPiece s o s' text → (e : Engine) (l rest : List ℕ) → Hands s e l o rest s' e l o rest
printed-piece {text = text} t e l rest = record { text = text; prints = λ later. t.prints e l (rest ++ later) }

-- chunk after chunk
pub reads_none : (s : State) (e : Engine) (line outbox : List ℕ) → Reads s e line outbox s e line outbox
reads_none s e line outbox = record { input = []; hands = none s e line outbox [] }

pub reads-chunk : {s s' s'' : State} {e e' e'' : Engine} {l l' l'' o o' o'' chunk : List ℕ} → Reads s e l o s' e' l' o' → Hands s' e' l' o' chunk s'' e'' l'' o'' [] → Reads s e l o s'' e'' l'' o''
reads-chunk {s} {s'} {s''} {e} {e'} {e''} {l} {l'} {l''} {o} {o'} {o''} {chunk} r h =
    let whole : Hands s e l o (r.input ++ chunk) s' e' l' o' chunk =
    record {
      text = r.hands.text;
      prints = λ later. ap (to_print s e l o) (append_assoc r.input chunk later) ∙ r.hands.prints (chunk ++ later);
    }
    in
    record { input = r.input ++ chunk; hands = whole ⨟ h }

-- ---- what the next step asks
pub ready_printed : (s : State) {s' : State} (l' o : List ℕ) {o' : List ℕ} (out : List ℕ) {out' : List ℕ} → Pending (take s.held l') l' s.held → s'.held ≡ s.held → s'.printing ≡ None → length o ≡ outbox_max → length o' ≡ length o
    → piece_max ≤ length out → length out' ≡ length out → Ready s' l' o' out'
ready_printed s {s'} l' o out p h t e q n r = record {
  under = subst (λ (k : ℕ). Pending (take k l') l' k) (sym h) p;
  printed = t;
  lent = q ∙ e;
  room = omega (arith, n, r);
}

pub ready_first : (s : State) (line outbox out : List ℕ) → s.held ≡ 0 → s.printing ≡ None → line_max + 2 ≤ length line → length outbox ≡ outbox_max → piece_max ≤ length out → Ready s line outbox out
ready_first s line outbox out h t l o n = record { under = nothing-held line l h; printed = t; lent = o; room = n }
