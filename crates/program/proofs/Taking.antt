-- Laws of taking in the input: what a chunk's line end, or the input's, gives of what is to be printed.
use mathlib.Core.Path.{◌≡◌, refl, sym, ◌∙◌, ap, subst}
use mathlib.Core.Bool.{Bool, true, false, cond}
use mathlib.Core.List.{List, [], ◌∷◌, ◌++◌, append_assoc, append-nil}
use Prim.Native.Nat.{ℕ, zero, suc, ◌+◌, min, ◌≤◌, ◌<◌}
use native.Mathlib.Omega.{arith}
use borrow.Author.Tests.{leb-true, ltb-true, ltb-false}
use Rattle.std.proofs.Common.{None}
use lib.Dec.{leb, ltb}
use lib.ListN.{length, take, drop, length-take, drop_of_length-le}
use lib.Seq.{take_all}
use Rattle.text.specs.Bytes.{index_of}
use Rattle.text.specs.Lines.{lines, bare}
use Rattle.console.specs.Each.{all}
use Rattle.console.specs.Buffer.{Filled}
use Rattle.console.specs.Input.{line_max, Heard, Text, Unheard, heard, input, not_end, Pending, ended, up_to, gathered, Gathers, finished}
use Rattle.console.specs.declared.input.Event.{Event}
use Rattle.console.specs.declared.input.Event.TheVariants.{More, Line, TooLong}
use Rattle.console.proofs.Gathering.{all_append, unended, up-to-none}
use Rattle.engine.specs.Arrays.{Engine}
use Rattle.program.specs.Program.{reply, printed}
use Rattle.program.specs.Steps.{due_of, due, session_in, to_print, Gives, holding, used_by, Replies, Takes, Finishes}
use Rattle.program.specs.declared.state.State.{State}
use Rattle.program.proofs.Lines.{no_end-front, heard-text, heard-none, input_last, line-ended, line-cut, line-text}

-- nothing of a line
none : all not_end [] ≡ true
none = refl

pub nothing-held : (line : List ℕ) {n : ℕ} → line_max + 2 ≤ length line → n ≡ 0 → Pending (take n line) line n
nothing-held line room p =
    subst (λ (k : ℕ). Pending (take k line) line k) (sym p) (record { room = room; unended = none; held = record { size = omega arith; front = sym (take_none (length line)) } })
  where
    take_none : (k : ℕ) → take {A = ℕ} k [] ≡ []
    take_none zero = refl
    take_none (suc k) = refl

no_due : (s : State) (outbox : List ℕ) → s.printing ≡ None → due s outbox ≡ []
unfolding due_of
no_due s outbox t = rw t refl

-- a line that has ended was answered
answered : (s : State) (e : Engine) {e' : Engine} (line outbox all line' rest : List ℕ) {outbox' text : List ℕ} {s' : State} (h : Heard) → s.printing ≡ None
    → Gives (reply s.traced (session_in s e) h) s.traced e' outbox' text s'
    → input (take s.held line ++ all) ≡ h ∷ input rest
    → to_print s e line outbox all ≡ text ++ to_print s' e' line' outbox' rest
unfolding to_print printed
answered s e {e'} line outbox all line' rest {outbox'} {text} {s'} h t g i =
    let x = reply s.traced (session_in s e) h in
    let tail = printed s.traced x.after (input rest) in
    let first : due s outbox ++ printed s.traced (session_in s e) (input (take s.held line ++ all)) ≡ x.text ++ tail =
    ap (λ (l : List ℕ). l ++ printed s.traced (session_in s e) (input (take s.held line ++ all))) (no_due s outbox t) ∙ ap (printed s.traced (session_in s e)) i
    in
    let then : printed s'.traced (session_in s' e') (input (take s'.held line' ++ rest)) ≡ tail =
    ap (λ (n : ℕ). printed s'.traced (session_in s' e') (input (take n line' ++ rest))) g.held
    ∙ ap (λ (y : Bool). printed y (session_in s' e') (input rest)) g.traced
    ∙ ap (λ y. printed s.traced y (input rest)) g.after
    in
    first ∙ ap (λ (l : List ℕ). l ++ tail) (sym g.text) ∙ append_assoc text (due s' outbox') tail ∙ ap (λ (l : List ℕ). text ++ (due s' outbox' ++ l)) (sym then)

-- the reply to a line is that to what the buffer holds of it
replies-heard : (t line outbox : List ℕ) {len : ℕ} (used : ℕ) (s : State) (e : Engine) {e' : Engine} {outbox' text : List ℕ} {s' : State} → Filled t line len → line_max + 2 ≤ length line
    → Replies (ended (length (bare t)) used) s e line outbox e' outbox' text s'
    → Gives (reply s.traced (session_in s e) (heard (bare t))) s.traced e' outbox' text s'
replies-heard t line outbox {len} used s e {e'} {outbox'} {text} {s'} f room r = go (leb (length (bare t)) line_max) refl r
  where
    go : (q : Bool) → leb (length (bare t)) line_max ≡ q → Replies (cond q (Line (length (bare t)) used) (TooLong used)) s e line outbox e' outbox' text s'
        → Gives (reply s.traced (session_in s e) (heard (bare t))) s.traced e' outbox' text s'
    go true p g =
        subst (λ (h : Heard). Gives (reply s.traced (session_in s e) h) s.traced e' outbox' text s')
        (ap Text (line-text t line len f room (leb-true (length (bare t)) line_max p)) ∙ sym (heard-text (bare t) p)) g
    go false p g = subst (λ (h : Heard). Gives (reply s.traced (session_in s e) h) s.traced e' outbox' text s') (sym (heard-none (bare t) p)) g

-- a line that goes on: nothing is printed
went_on : (s : State) (m : ℕ) (line line' whole rest : List ℕ) {e e' : Engine} {outbox outbox' text : List ℕ} {s' : State} → s' ≡ holding s m → e' ≡ e → outbox' ≡ outbox → text ≡ []
    → input (take s.held line ++ whole) ≡ input (take m line' ++ rest)
    → to_print s e line outbox whole ≡ text ++ to_print s' e' line' outbox' rest
unfolding to_print due_of
went_on s m line line' whole rest {e} {e'} {outbox} {outbox'} {text} {s'} p q o t i =
    ap (λ (ls : List Heard). due s outbox ++ printed s.traced (session_in s e) ls) i
    ∙ ap (λ (x : State). to_print x e line' outbox rest) (sym p)
    ∙ ap (λ (x : Engine). to_print s' x line' outbox rest) (sym q)
    ∙ ap (λ (x : List ℕ). to_print s' e' line' x rest) (sym o)
    ∙ ap (λ (x : List ℕ). x ++ to_print s' e' line' outbox' rest) (sym t)

-- what is kept of it is under way
still-held : (m : ℕ) (line line' x : List ℕ) → m ≡ min (length x) (length line) → take m line' ≡ take (length line) x → length line' ≡ length line → line_max + 2 ≤ length line
    → all not_end x ≡ true → Pending (take m line') line' m
still-held m line line' x is front room long e = record {
  room = omega (arith, room, long);
  unended = ap (all not_end) front ∙ no_end-front (length line) x e;
  held = record {
    size = omega (arith, length-take m line', is, room);
    front = sym (take_all (length line') (take m line') (omega (arith, length-take m line')));
  };
}

used_ended : (n used all : ℕ) → used_by (ended n used) all ≡ used
used_ended n used all = go (leb n line_max)
  where
    go : (q : Bool) → used_by (cond q (Line n used) (TooLong used)) all ≡ used
    go true = refl
    go false = refl

module _ (s : State) {e e' : Engine} {line line' outbox outbox' chunk text : List ℕ} {used : ℕ} {s' : State} {event : Event}
    (under : Pending (take s.held line) line s.held) (printed : s.printing ≡ None) (g : Gathers line s.held chunk line' event)
    (r : Replies event s e line' outbox e' outbox' text s') (u : used ≡ used_by event (length chunk)) where
  -- the line ends in this chunk
  takes-end : event ≡ ended (length (bare (take s.held line ++ up_to chunk))) (suc (index_of 10 chunk)) → index_of 10 chunk < length chunk
      → Takes s e line outbox chunk s' e' line' outbox' used text
  takes-end p h =
      let t = take s.held line in
      let n : used ≡ suc (index_of 10 chunk) = u ∙ ap (λ (x : Event). used_by x (length chunk)) p ∙ used_ended (length (bare (t ++ up_to chunk))) (suc (index_of 10 chunk)) (length chunk) in
      let room : line_max + 2 ≤ length line' = omega (arith, g.room, under.room) in
      let a = replies-heard (t ++ up_to chunk) line' outbox (suc (index_of 10 chunk)) s e (g.held t under) room (subst (λ (x : Event). Replies x s e line' outbox e' outbox' text s') p r) in
      record {
        under = nothing-held line' room a.held;
        some = λ k. omega (arith, n);
        most = omega (arith, n);
        prints = λ later.
            answered s e line outbox (chunk ++ later) line' (drop used chunk ++ later) (heard (bare (t ++ up_to chunk))) printed a
            (line-ended t chunk later under.unended h ∙ ap (λ (k : ℕ). heard (bare (t ++ up_to chunk)) ∷ input (drop k chunk ++ later)) (sym n));
      }

  -- it goes on
  takes-more : (m : ℕ) → event ≡ More m → m ≡ min (length (take s.held line ++ up_to chunk)) (length line) → length chunk ≤ index_of 10 chunk
      → Takes s e line outbox chunk s' e' line' outbox' used text
  takes-more m p is h =
      let t = take s.held line in
      let x = t ++ up_to chunk in
      let up : up_to chunk ≡ chunk = up-to-none chunk refl h in
      let n : used ≡ length chunk = u ∙ ap (λ (y : Event). used_by y (length chunk)) p in
      let on : Replies (More m) s e line' outbox e' outbox' text s' = subst (λ (y : Event). Replies y s e line' outbox e' outbox' text s') p r in
      let front : take m line' ≡ take (length line) x =
      ap (λ (k : ℕ). take k line') is ∙ (g.held t under).front ∙ ap (λ (k : ℕ). take k x) g.room
      in
      let rest : all not_end (up_to chunk) ≡ true = ap (all not_end) (up ∙ sym (take_all (index_of 10 chunk) chunk h)) ∙ unended chunk in
      let open-ended : all not_end x ≡ true = all_append not_end t (up_to chunk) under.unended rest in
      record {
        under = subst (λ (k : ℕ). Pending (take k line') line' k) (sym (ap (λ (y : State). y.held) on.0))
            (still-held m line line' x is front g.room under.room open-ended);
        some = λ k. omega (arith, n);
        most = omega (arith, n);
        prints = λ later.
            went_on s m line line' (chunk ++ later) (drop used chunk ++ later) on.0 on.1 on.2 on.3
            (ap input (sym (append_assoc t chunk later)) ∙ ap (λ (l : List ℕ). input ((t ++ l) ++ later)) (sym up) ∙ sym (line-cut (length line) x later open-ended under.room)
            ∙ ap (λ (l : List ℕ). input (l ++ later)) (sym front)
            ∙ ap (λ (l : List ℕ). input (take m line' ++ (l ++ later))) (sym (drop_of_length-le chunk {i = used} (omega (arith, n)))));
      }

pub takes : (s : State) {e e' : Engine} {line line' outbox outbox' chunk text : List ℕ} {used : ℕ} {s' : State} {event : Event}
    → Pending (take s.held line) line s.held → s.printing ≡ None → Gathers line s.held chunk line' event
    → Replies event s e line' outbox e' outbox' text s' → used ≡ used_by event (length chunk) → Takes s e line outbox chunk s' e' line' outbox' used text
unfolding gathered
takes s {e} {e'} {line} {line'} {outbox} {outbox'} {chunk} {text} {used} {s'} {event} under printed g r u =
    go (ltb (index_of 10 chunk) (length chunk)) refl (g.event (take s.held line) under)
  where
    t : List ℕ
    t = take s.held line

    go : (q : Bool) → ltb (index_of 10 chunk) (length chunk) ≡ q
        → event ≡ cond q (ended (length (bare (take s.held line ++ up_to chunk))) (suc (index_of 10 chunk))) (More (min (length (take s.held line ++ up_to chunk)) (length line)))
        → Takes s e line outbox chunk s' e' line' outbox' used text
    go true p q = takes-end s under printed g r u q (ltb-true (index_of 10 chunk) (length chunk) p)
    go false p q = takes-more s under printed g r u (min (length (take s.held line ++ up_to chunk)) (length line)) q refl (ltb-false (index_of 10 chunk) (length chunk) p)

empty : input [] ≡ []
unfolding input lines
empty = refl

-- the input ends: what is under way is its last line, if there is anything
pub finishes : (s : State) {e e' : Engine} {line outbox outbox' text : List ℕ} {s' : State} {event : Event}
    → Pending (take s.held line) line s.held → s.printing ≡ None → event ≡ finished (take s.held line)
    → Replies event s e line outbox e' outbox' text s' → Finishes s e line outbox s' e' outbox' text
unfolding finished
finishes s {e} {e'} {line} {outbox} {outbox'} {text} {s'} {event} under printed f r = go (take s.held line) refl f
  where
    go : (t : List ℕ) → take s.held line ≡ t → event ≡ finished t → Finishes s e line outbox s' e' outbox' text
    go [] p q =
        let on : Replies (More 0) s e line outbox e' outbox' text s' = subst (λ (y : Event). Replies y s e line outbox e' outbox' text s') q r in
        record {
          held = ap (λ (y : State). y.held) on.0;
          prints = went_on s 0 line line [] [] on.0 on.1 on.2 on.3 (ap (λ (l : List ℕ). input (l ++ [])) p);
        }
    go (b ∷ w) p q =
        let filled : Filled (b ∷ w) line s.held = subst (λ (l : List ℕ). Filled l line s.held) p under.held in
        let a = replies-heard (b ∷ w) line outbox 0 s e filled under.room (subst (λ (y : Event). Replies y s e line outbox e' outbox' text s') q r) in
        record {
          held = a.held;
          prints =
              answered s e line outbox [] line [] (heard (bare (b ∷ w))) printed a
              (ap input (append-nil (take s.held line) ∙ p) ∙ input_last b w (ap (all not_end) (sym p) ∙ under.unended) ∙ ap (λ (ls : List Heard). heard (bare (b ∷ w)) ∷ ls) (sym empty));
        }

-- ---- a line that is too long
module _ (s : State) (e : Engine) (line outbox : List ℕ) {event : Event} where
  pub replies-too_long : {used : ℕ} {e' : Engine} {outbox' text : List ℕ} {s' : State} → event ≡ TooLong used
      → Gives (reply s.traced (session_in s e) Unheard) s.traced e' outbox' text s' → Replies event s e line outbox e' outbox' text s'
  replies-too_long {used} {e'} {outbox'} {text} {s'} p g = subst (λ (x : Event). Replies x s e line outbox e' outbox' text s') (sym p) g
