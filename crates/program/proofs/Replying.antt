-- Laws of what a line gives: the engine's reply as it is printed, and the session after it.
use mathlib.Core.Path.{◌≡◌, refl, sym, ◌∙◌, ap, subst}
use mathlib.Core.Bool.{Bool, true, false, cond}
use mathlib.Core.List.{List, [], ◌++◌, append_assoc, append-nil}
use Prim.Native.Nat.{ℕ, ◌-◌, min}
use native.Mathlib.Omega.{arith}
use Rattle.std.proofs.Common.{Option, Some, None}
use Rattle.std.specs.Bool.{then_some}
use Rattle.std.specs.Option.{unwrap_or, is_some}
use lib.Dec.{eqb}
use lib.ListN.{length, take, replicate, length-take}
use Rattle.text.specs.Bytes.{bytes}
use Rattle.console.specs.Input.{Text, Unheard as TooLong}
use Rattle.console.specs.declared.command.Command.{Command}
use Rattle.console.specs.declared.command.Command.TheVariants as line
use Rattle.console.specs.Command.{outbox_max}
use Rattle.engine.specs.Held.{Held}
use Rattle.engine.specs.Layout.{written}
use Rattle.engine.specs.Arrays.{Engine, held}
use Rattle.engine.specs.Engine.{step, new_step}
use Rattle.engine.specs.Refusals.{new_refusal}
use Rattle.engine.specs.declared.answer.Answer.{Answer}
use Rattle.dialogue.specs.Asking.{Asked, Nothing, Begin, Lend, Of, asked}
use Rattle.dialogue.specs.Obeying.{Unheard, Begun, Called, Outcome, Obeys}
use Rattle.dialogue.specs.Printing.{answer_line, news_line}
use Rattle.dialogue.specs.Outbox.{mark}
use Rattle.dialogue.specs.declared.session.Reply.{Reply}
use Rattle.program.specs.Program.{Session, Before, Running, Given, first_lent, unread, record_lines, stain, printout, gives, reply, command_of, lent_in}
use Rattle.program.specs.Steps.{session_of, session_in, room_in, due_of, due, Gives, reply_text, printing_of, replied, marked, lends}
use Rattle.program.specs.declared.state.State.{State}

-- no command but `outbox` asks to lend
pub lends-not : (k : Command) → ((n : ℕ) → k ≡ line.Lend n → ⊥) → (s : List ℕ) (room : ℕ) → lends (asked s room (Some k)) ≡ false
unfolding asked
lends-not (line.Lend n) h s room = absurd (h n refl)
lends-not _ h s room = refl

-- what is lent in a session
pub lent-in : (lent : Option ℕ) (e : Engine) {n : ℕ} → n ≡ outbox_max → min (unwrap_or lent 0) n ≡ lent_in (session_of lent e)
unfolding lent_in
lent-in (Some lent) e p = ap (min lent) p
lent-in None e p = omega arith

-- an answer's text: at once and then
printout-text : (traced : Bool) (a : Answer) (room : ℕ) (outbox : List ℕ) → reply_text traced (Some a) ++ due_of (printing_of traced room (Some a)) outbox ≡ printout traced a (take room outbox)
unfolding reply_text due_of printout
printout-text false a room outbox = append-nil (answer_line a ++ []) ∙ append-nil (answer_line a)
printout-text true a room outbox =
    let z : a.records - 0 ≡ a.records = omega arith in
    rw z (append_assoc (answer_line a) (news_line a) _)

unheard_text : (traced : Bool) (room : ℕ) (outbox : List ℕ) → reply_text traced None ++ due_of (printing_of traced room None) outbox ≡ bytes "?\n"
unfolding reply_text due_of
unheard_text false room outbox = append-nil (bytes "?\n")
unheard_text true room outbox = append-nil (bytes "?\n")

reply-text : (s : State) (r : Reply) (outbox : List ℕ) {text : List ℕ} {a : Option Answer} → text ≡ reply_text s.traced r.answer → r.answer ≡ a
    → text ++ due (replied s r) outbox ≡ reply_text s.traced a ++ due_of (printing_of s.traced (room_in s) a) outbox
reply-text s r outbox is h =
    ap (λ (l : List ℕ). l ++ due (replied s r) outbox) is ∙ ap (λ (x : Option Answer). reply_text s.traced x ++ due_of (printing_of s.traced (room_in s) x) outbox) h

-- only `trace` looks at the outbox
printout-same : (traced : Bool) {a a' : Answer} {o o' : List ℕ} → a ≡ a' → (traced ≡ true → o ≡ o') → printout traced a o ≡ printout traced a' o'
unfolding printout
printout-same false p q = ap answer_line p
printout-same true {a} {a'} {o} {o'} p q =
    ap (λ (x : Answer). answer_line x ++ (news_line x ++ (record_lines x.records 0 o ++ stain x.records o))) p
    ∙ ap (λ (x : List ℕ). answer_line a' ++ (news_line a' ++ (record_lines a'.records 0 x ++ stain a'.records x))) (q refl)

beginning : (t : Bool) {h : Held} (e : Engine) (n : ℕ) → held e ≡ h → session_of (then_some t n) e ≡ cond t (Running h n) Before
beginning true e n q = ap (λ (x : Held). Running x n) q
beginning false e n q = refl

-- what is lent after a reply
lent-after : (s : State) (r : Reply) {begun : Bool} {lent : Option ℕ} (e : Engine) → s.lent ≡ lent → r.begun ≡ begun → session_in (replied s r) e ≡ session_of (then_some begun (unwrap_or lent first_lent)) e
lent-after s r {begun} {lent} e p q =
    ap (λ (x : Option ℕ). session_of (then_some r.begun (unwrap_or x first_lent)) e) p ∙ ap (λ (x : Bool). session_of (then_some x (unwrap_or lent first_lent)) e) q

-- a line that is not heard, in either session
module _ (s : State) {e e' : Engine} {o o' outbox' text : List ℕ} {r : Reply} (is : text ≡ reply_text s.traced r.answer) where
  none_before : s.lent ≡ None → Unheard false e o o' e' r → Gives (unread Before) s.traced e' outbox' text (replied s r)
  none_before b u = record {
    traced = refl;
    held = refl;
    after = lent-after s r e' b u.still;
    text = reply-text s r outbox' is u.unheard ∙ unheard_text s.traced (room_in s) outbox';
  }

  none-running : {lent : ℕ} → s.lent ≡ Some lent → Unheard true e o o' e' r → Gives (unread (Running (held e) lent)) s.traced e' outbox' text (replied s r)
  none-running {lent} b u = record {
    traced = refl;
    held = refl;
    after = lent-after s r e' b u.still ∙ ap (λ (x : Engine). Running (held x) lent) u.engine;
    text = reply-text s r outbox' is u.unheard ∙ unheard_text s.traced (room_in s) outbox';
  }

heard-begin : (s : State) (seed time : ℕ) {e' : Engine} {o o' outbox' text : List ℕ} {r : Reply} → text ≡ reply_text s.traced r.answer → s.lent ≡ None
    → Begun seed time o o' e' r → Gives (gives s.traced Before (Begin seed time)) s.traced e' outbox' text (replied s r)
unfolding gives
heard-begin s seed time {e'} {o} {o'} {outbox'} {text} {r} is b u =
    let x = new_step (new_refusal time) seed time in
    record {
      traced = refl;
      held = refl;
      after = lent-after s r e' b (u.begun ∙ ap (λ (a : Answer). eqb a.refusal 0) u.begins.answer) ∙ beginning (eqb x.answer.refusal 0) e' first_lent u.begins.engine;
      text = reply-text s r outbox' is u.heard ∙ printout-text s.traced u.answer (room_in s) outbox'
          ∙ printout-same s.traced u.begins.answer (λ t. ap (λ (q : Option ℕ). take (unwrap_or q 0) outbox') b);
    }

marked-lent : (lent : ℕ) (outbox : List ℕ) → length outbox ≡ outbox_max → marked true (take lent outbox) ≡ replicate (min lent outbox_max) mark
marked-lent lent outbox p = ap (λ (n : ℕ). replicate n mark) (length-take lent outbox ∙ ap (min lent) p)

heard-call : (s : State) (outbox : List ℕ) {lent : ℕ} {e e' : Engine} {outbox' text : List ℕ} {r : Reply} → length outbox ≡ outbox_max → text ≡ reply_text s.traced r.answer → s.lent ≡ Some lent
    → (c : _) → Called e c (marked s.traced (take lent outbox)) (take lent outbox') e' r
    → Gives (gives s.traced (Running (held e) lent) (Of c)) s.traced e' outbox' text (replied s r)
unfolding gives
heard-call s outbox {lent} {e} {e'} {outbox'} {text} {r} size is b c u =
    let x = step (held e) c in
    record {
      traced = refl;
      held = refl;
      after = lent-after s r e' b u.begun ∙ ap (λ (h : Held). Running h lent) u.answers.engine;
      text = reply-text s r outbox' is u.heard ∙ printout-text s.traced u.answer (room_in s) outbox'
          ∙ printout-same s.traced u.answers.answer
          (λ t. ap (λ (q : Option ℕ). take (unwrap_or q 0) outbox') b ∙ u.answers.sent
          ∙ ap (λ (q : Bool). written x.sent (marked q (take lent outbox))) t ∙ ap (written x.sent) (marked-lent lent outbox size));
    }

-- whatever is asked, but to lend
by-asked : (s : State) (lent : Option ℕ) → s.lent ≡ lent → (x : Asked) → lends x ≡ false → (outbox : List ℕ) (e : Engine) (r : Reply) {e' : Engine} {outbox' text : List ℕ} → length outbox ≡ outbox_max
    → text ≡ reply_text s.traced r.answer
    → Outcome (is_some lent) x e (marked s.traced (take (unwrap_or lent 0) outbox)) (take (unwrap_or lent 0) outbox') e' r
    → Gives (gives s.traced (session_of lent e) x) s.traced e' outbox' text (replied s r)
unfolding gives
by-asked s None b Nothing l outbox e r size is u = none_before s is b u
by-asked s None b (Begin seed time) l outbox e r size is u = heard-begin s seed time is b u
by-asked s None b (Lend n) l outbox e r size is u = none_before s is b u
by-asked s None b (Of c) l outbox e r size is u = none_before s is b u
by-asked s (Some lent) b Nothing l outbox e r size is u = none-running s is b u
by-asked s (Some lent) b (Begin seed time) l outbox e r size is u = none-running s is b u
by-asked s (Some lent) b (Lend n) l outbox e r size is u = let z : ◌≡◌ {A = ℕ} 0 1 = cc in absurd (omega arith)
by-asked s (Some lent) b (Of c) l outbox e r size is u = heard-call s outbox size is b c u

pub given-reply : (s : State) (l : List ℕ) (k : Option Command) (outbox : List ℕ) {e e' : Engine} {outbox' text : List ℕ} {r : Reply} {room : ℕ} {s' : State} → length outbox ≡ outbox_max
    → room ≡ room_in s
    → Obeys (is_some s.lent) (asked l (min room (length outbox)) k) e (marked s.traced (take room outbox)) (take room outbox') e' r
    → s' ≡ replied s r → text ≡ reply_text s.traced r.answer
    → lends (asked l (lent_in (session_in s e)) k) ≡ false
    → Gives (gives s.traced (session_in s e) (asked l (lent_in (session_in s e)) k)) s.traced e' outbox' text s'
given-reply s l k outbox {e} {e'} {outbox'} {text} {r} {room} {s'} size p u q is unlent =
    let room' = room_in s in
    let obeys : Obeys (is_some s.lent) (asked l (min room' (length outbox)) k) e (marked s.traced (take room' outbox)) (take room' outbox') e' r =
    subst (λ (n : ℕ). Obeys (is_some s.lent) (asked l (min n (length outbox)) k) e (marked s.traced (take n outbox)) (take n outbox') e' r) p u
    in
    let asks : asked l (min room' (length outbox)) k ≡ asked l (lent_in (session_in s e)) k = ap (λ (n : ℕ). asked l n k) (lent-in s.lent e size) in
    let o : Outcome (is_some s.lent) (asked l (lent_in (session_in s e)) k) e (marked s.traced (take room' outbox)) (take room' outbox') e' r =
    subst (λ (x : Asked). Outcome (is_some s.lent) x e (marked s.traced (take room' outbox)) (take room' outbox') e' r) asks obeys.outcome
    in
    subst (λ (x : State). Gives (gives s.traced (session_in s e) (asked l (lent_in (session_in s e)) k)) s.traced e' outbox' text x) (sym q)
    (by-asked s s.lent refl (asked l (lent_in (session_in s e)) k) unlent outbox e r size is o)

-- `?`, and `ok`
abbrev pub quiet : State → Option ℕ → State
quiet s lent = record { traced = s.traced; lent = lent; held = 0; printing = None }

quiet-text : (s : State) (lent : Option ℕ) (outbox : List ℕ) {text u : List ℕ} → text ≡ u → text ++ due (quiet s lent) outbox ≡ u
unfolding due_of
quiet-text s lent outbox {text} q = append-nil text ∙ q

pub given-unread : (s : State) (e : Engine) (outbox : List ℕ) {text : List ℕ} {s' : State} → s' ≡ quiet s s.lent → text ≡ bytes "?\n" → Gives (unread (session_in s e)) s.traced e outbox text s'
given-unread s e outbox {text} {s'} p q =
    subst (λ (x : State). Gives (unread (session_in s e)) s.traced e outbox text x) (sym p)
    (record { traced = refl; held = refl; after = refl; text = quiet-text s s.lent outbox q })

-- `outbox` before an engine has begun, and then
lend-before : (traced : Bool) (n : ℕ) {lent : Option ℕ} (e : Engine) → lent ≡ None → gives traced (session_of lent e) (Lend n) ≡ unread (session_of lent e)
unfolding gives
lend-before traced n e p = rw p refl

lend-running : (traced : Bool) (n : ℕ) {m : ℕ} {lent : Option ℕ} (e : Engine) → lent ≡ Some m → gives traced (session_of lent e) (Lend n) ≡ record { text = bytes "ok\n"; after = session_of (Some n) e }
unfolding gives
lend-running traced n e p = rw p refl

pub given-lend-before : (s : State) (n : ℕ) (e : Engine) (outbox : List ℕ) {text : List ℕ} {s' : State} → s.lent ≡ None
    → Gives (unread (session_in s e)) s.traced e outbox text s' → Gives (gives s.traced (session_in s e) (Lend n)) s.traced e outbox text s'
given-lend-before s n e outbox {text} {s'} b g =
    subst (λ (x : Given). Gives x s.traced e outbox text s') (sym (lend-before s.traced n e b)) g

pub given-lend : (s : State) (n : ℕ) (e : Engine) (outbox : List ℕ) {m : ℕ} {text : List ℕ} {s' : State} → s.lent ≡ Some m → s' ≡ quiet s (Some n) → text ≡ bytes "ok\n"
    → Gives (gives s.traced (session_in s e) (Lend n)) s.traced e outbox text s'
given-lend s n e outbox {text = text} {s' = s'} b p q =
    subst (λ (x : Given). Gives x s.traced e outbox text s') (sym (lend-running s.traced n e b))
    (subst (λ (x : State). Gives (record { text = bytes "ok\n"; after = session_of (Some n) e }) s.traced e outbox text x) (sym p)
    (record { traced = refl; held = refl; after = refl; text = quiet-text s (Some n) outbox q }))

-- a line's command, if it is read
pub given-line : (s : State) (l : List ℕ) (e : Engine) {k : Option Command} {e' : Engine} {outbox' text : List ℕ} {s' : State} → k ≡ command_of s.traced l
    → Gives (gives s.traced (session_in s e) (asked l (lent_in (session_in s e)) k)) s.traced e' outbox' text s'
    → Gives (reply s.traced (session_in s e) (Text l)) s.traced e' outbox' text s'
unfolding reply
given-line s l e {k} {e'} {outbox'} {text} {s'} p g =
    subst (λ (x : Option Command). Gives (gives s.traced (session_in s e) (asked l (lent_in (session_in s e)) x)) s.traced e' outbox' text s') p g

nothing-given : (traced : Bool) (x : Session) → gives traced x Nothing ≡ unread x
unfolding gives
nothing-given traced Before = refl
nothing-given traced (Running h n) = refl

pub given-none : (s : State) (l : List ℕ) (e : Engine) {outbox' text : List ℕ} {s' : State} → None ≡ command_of s.traced l
    → Gives (unread (session_in s e)) s.traced e outbox' text s' → Gives (reply s.traced (session_in s e) (Text l)) s.traced e outbox' text s'
unfolding asked
given-none s l e {outbox'} {text} {s'} p g = given-line s l e p (subst (λ (x : Given). Gives x s.traced e outbox' text s') (sym (nothing-given s.traced (session_in s e))) g)

pub given-lent : (s : State) (l : List ℕ) (e : Engine) {k : Command} {n : ℕ} {e' : Engine} {outbox' text : List ℕ} {s' : State} → Some k ≡ command_of s.traced l → k ≡ line.Lend n
    → Gives (gives s.traced (session_in s e) (Lend n)) s.traced e' outbox' text s'
    → Gives (reply s.traced (session_in s e) (Text l)) s.traced e' outbox' text s'
unfolding asked
given-lent s l e {k} {n} {e'} {outbox'} {text} {s'} p q g =
    given-line s l e p
    (subst (λ (x : Asked). Gives (gives s.traced (session_in s e) x) s.traced e' outbox' text s') (sym (ap (λ (x : Command). asked l (lent_in (session_in s e)) (Some x)) q)) g)

-- a line that is too long
pub given-too_long : (s : State) (e : Engine) {outbox text : List ℕ} {s' : State} → Gives (unread (session_in s e)) s.traced e outbox text s' → Gives (reply s.traced (session_in s e) TooLong) s.traced e outbox text s'
unfolding reply
given-too_long s e g = g
