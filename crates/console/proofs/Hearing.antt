-- However the input is cut into chunks, the lines that `gather` and `finish` tell are the lines of the whole input.
use mathlib.Core.Path.{◌≡◌, refl, sym, ◌∙◌, ap, subst}
use mathlib.Core.Bool.{Bool, true, false, cond}
use mathlib.Core.List.{List, [], ◌∷◌, ◌++◌, append_assoc, append-nil, map}
use Prim.Native.Nat.{ℕ, suc, ◌+◌, min, ◌≤◌, ◌<◌}
use native.Mathlib.Omega.{arith}
use borrow.Author.Tests.{leb-true, ltb-true, ltb-false}
use lib.Dec.{leb, ltb}
use lib.ListN.{length, take, drop, take-append-drop}
use lib.Seq.{take_all, take-take}
use Rattle.text.specs.Bytes.{index_of}
use Rattle.text.specs.Lines.{lines, bare}
use Rattle.text.proofs.FirstLine.{bare-front}
use Rattle.console.specs.Each.{all}
use Rattle.console.specs.Buffer.{Filled}
use Rattle.console.specs.Input.{line_max, Heard, Text, Unheard, heard, input, ended, not_end, Pending, up_to, gathered, Gathers, finished}
use Rattle.console.specs.declared.input.Event.{Event}
use Rattle.console.specs.declared.input.Event.TheVariants.{More, Line, TooLong}
use Rattle.console.proofs.Appending.{empty}
use Rattle.console.proofs.Gathering.{all_append, unended, lines-ended, lines-last, bare-short, up-to-none, up-to-end}

-- the chunks in a row
abbrev pub joined : List (List ℕ) → List ℕ
joined [] = []
joined (c ∷ cs) = c ++ joined cs

-- what the program hears of an event, what it holds of the next line, and the chunks that it goes on with
abbrev pub heard_in : List ℕ → Event → List Heard
heard_in buffer (More n) = []
heard_in buffer (Line n used) = Text (take n buffer) ∷ []
heard_in buffer (TooLong used) = Unheard ∷ []

abbrev pub len_of : Event → ℕ
len_of (More n) = n
len_of (Line n used) = 0
len_of (TooLong used) = 0

abbrev pub onwards : Event → List ℕ → List (List ℕ) → List (List ℕ)
onwards (More n) chunk chunks = chunks
onwards (Line n used) chunk chunks = drop used chunk ∷ chunks
onwards (TooLong used) chunk chunks = drop used chunk ∷ chunks

-- a run over chunks: each step is what the contract of `gather` says of a call, the last what that of `finish` says
pub data Run : List ℕ → ℕ → List (List ℕ) → List Heard → Type 0 where
  over : (buffer : List ℕ) (len : ℕ) (r : Event) → ((text : List ℕ) → Pending text buffer len → r ≡ finished text) → Run buffer len [] (heard_in buffer r)
  step : (buffer : List ℕ) (len : ℕ) (chunk after : List ℕ) (r : Event) (chunks : List (List ℕ)) (hs : List Heard) → Gathers buffer len chunk after r
      → Run after (len_of r) (onwards r chunk chunks) hs → Run buffer len (chunk ∷ chunks) (heard_in after r ++ hs)

-- a line that is held is heard
held-line : (t buffer : List ℕ) → line_max + 2 ≤ length buffer → Filled t buffer (min (length t) (length buffer)) → length (bare t) ≤ line_max → take (length (bare t)) buffer ≡ bare t
held-line t buffer room f h =
    let fits : length t ≤ length buffer = omega (arith, bare-short t) in
    let front = bare-front t in
    let k : min (length t) (length buffer) ≡ length t = omega (arith, fits) in
    sym (take-take (length (bare t)) (length t) buffer front.short)
    ∙ ap (take (length (bare t))) (ap (λ (n : ℕ). take n buffer) (sym k) ∙ f.front ∙ take_all (length buffer) t fits)
    ∙ front.part

heard-line : (t buffer : List ℕ) (used : ℕ) → line_max + 2 ≤ length buffer → Filled t buffer (min (length t) (length buffer)) → heard_in buffer (ended (length (bare t)) used) ≡ heard (bare t) ∷ []
unfolding heard
heard-line t buffer used room f = go (leb (length (bare t)) line_max) refl
  where
    go : (q : Bool) → leb (length (bare t)) line_max ≡ q
        → heard_in buffer (cond q (Line (length (bare t)) used) (TooLong used)) ≡ cond q (Text (bare t)) Unheard ∷ []
    go true e = ap (λ (l : List ℕ). Text l ∷ []) (held-line t buffer room f (leb-true (length (bare t)) line_max e))
    go false e = refl

-- the input's last line, and a line that ends in the chunk
input_last : (b : ℕ) (text : List ℕ) → all not_end (b ∷ text) ≡ true → input ((b ∷ text) ++ []) ≡ heard (bare (b ∷ text)) ∷ []
unfolding input
input_last b text e = ap (λ (l : List ℕ). map (λ l. heard (bare l)) (lines l)) (append-nil (b ∷ text)) ∙ ap (map (λ l. heard (bare l))) (lines-last b text e)

input-line : (text chunk more : List ℕ) → all not_end text ≡ true → index_of 10 chunk < length chunk
    → input (text ++ (chunk ++ more)) ≡ heard (bare (text ++ up_to chunk)) ∷ input (drop (suc (index_of 10 chunk)) chunk ++ more)
unfolding input up_to
input-line text chunk more u h =
    let n = index_of 10 chunk in
    let front = take n chunk in
    let back = drop (suc n) chunk in
    let end : up_to chunk ≡ front ++ (10 ∷ []) = up-to-end chunk refl h in
    let whole : chunk ≡ (front ++ (10 ∷ [])) ++ back = sym (take-append-drop (suc n) chunk) ∙ ap (λ (l : List ℕ). l ++ back) end in
    let row : text ++ (chunk ++ more) ≡ (text ++ front) ++ (10 ∷ (back ++ more)) =
    ap (λ (l : List ℕ). text ++ (l ++ more)) whole ∙ simp append_assoc
    in
    let line : (text ++ front) ++ (10 ∷ []) ≡ text ++ up_to chunk = append_assoc text front (10 ∷ []) ∙ ap (λ (l : List ℕ). text ++ l) (sym end) in
    ap (λ (l : List ℕ). map (λ l. heard (bare l)) (lines l)) row
    ∙ ap (map (λ l. heard (bare l))) (lines-ended (text ++ front) (back ++ more) (all_append not_end text front u (unended chunk)))
    ∙ ap (λ (l : List ℕ). heard (bare l) ∷ map (λ l. heard (bare l)) (lines (back ++ more))) line

-- the end of a run
at-over : (text buffer : List ℕ) (len : ℕ) (r : Event) → Pending text buffer len → r ≡ finished text → heard_in buffer r ≡ input (text ++ [])
unfolding finished input lines
at-over [] buffer len r p e = ap (heard_in buffer) e
at-over (b ∷ text) buffer len r p e =
    ap (heard_in buffer) e
    ∙ heard-line (b ∷ text) buffer 0 p.room (subst (λ (n : ℕ). Filled (b ∷ text) buffer n) p.held.size p.held)
    ∙ sym (input_last b text p.unended)

-- a step of it: the line ends in the chunk, or goes on
len-ended : (n used : ℕ) → len_of (ended n used) ≡ 0
len-ended n used = go (leb n line_max)
  where
    go : (q : Bool) → len_of (cond q (Line n used) (TooLong used)) ≡ 0
    go true = refl
    go false = refl

onwards-ended : (n used : ℕ) (chunk : List ℕ) (chunks : List (List ℕ)) → onwards (ended n used) chunk chunks ≡ drop used chunk ∷ chunks
onwards-ended n used chunk chunks = go (leb n line_max)
  where
    go : (q : Bool) → onwards (cond q (Line n used) (TooLong used)) chunk chunks ≡ drop used chunk ∷ chunks
    go true = refl
    go false = refl

module _ (text buffer : List ℕ) (len : ℕ) (chunk after : List ℕ) (r : Event) (chunks : List (List ℕ)) (hs : List Heard) (p : Pending text buffer len)
    (g : Gathers buffer len chunk after r)
    (rest : (t : List ℕ) → Pending t after (len_of r) → hs ≡ input (t ++ joined (onwards r chunk chunks))) where
  at-end : index_of 10 chunk < length chunk → r ≡ ended (length (bare (text ++ up_to chunk))) (suc (index_of 10 chunk)) → heard_in after r ++ hs ≡ input (text ++ (chunk ++ joined chunks))
  at-end h e =
      let used = suc (index_of 10 chunk) in
      let n = length (bare (text ++ up_to chunk)) in
      let room : line_max + 2 ≤ length after = omega (arith, p.room, g.room) in
      let held : Filled (text ++ up_to chunk) after (min (length (text ++ up_to chunk)) (length after)) =
      subst (λ (k : ℕ). Filled (text ++ up_to chunk) after (min (length (text ++ up_to chunk)) k)) (sym g.room) (g.held text p)
      in
      let nothing : Pending [] after (len_of r) =
      subst (Pending [] after) (sym (ap len_of e ∙ len-ended n used)) (record { room = room; unended = refl; held = empty after })
      in
      let behind : hs ≡ input (drop used chunk ++ joined chunks) =
      rest [] nothing ∙ ap (λ (cs : List (List ℕ)). input (joined cs)) (ap (λ (x : Event). onwards x chunk chunks) e ∙ onwards-ended n used chunk chunks)
      in
      ap (λ (l : List Heard). l ++ hs) (ap (heard_in after) e ∙ heard-line (text ++ up_to chunk) after used room held)
      ∙ ap (λ (l : List Heard). heard (bare (text ++ up_to chunk)) ∷ l) behind
      ∙ sym (input-line text chunk (joined chunks) p.unended h)

  goes_on : length chunk ≤ index_of 10 chunk → r ≡ More (min (length (text ++ up_to chunk)) (length buffer)) → heard_in after r ++ hs ≡ input (text ++ (chunk ++ joined chunks))
  goes_on h e =
      let n = min (length (text ++ up_to chunk)) (length buffer) in
      let all_of : up_to chunk ≡ chunk = up-to-none chunk refl h in
      let u : all not_end chunk ≡ true = ap (all not_end) (sym (take_all (index_of 10 chunk) chunk h)) ∙ unended chunk in
      let pending : Pending (text ++ chunk) after n =
      record {
        room = omega (arith, p.room, g.room);
        unended = all_append not_end text chunk p.unended u;
        held = subst (λ (l : List ℕ). Filled (text ++ l) after n) all_of (g.held text p);
      }
      in
      ap (λ (l : List Heard). l ++ hs) (ap (heard_in after) e)
      ∙ rest (text ++ chunk) (subst (Pending (text ++ chunk) after) (sym (ap len_of e)) pending)
      ∙ ap (λ (cs : List (List ℕ)). input ((text ++ chunk) ++ joined cs)) (ap (λ (x : Event). onwards x chunk chunks) e)
      ∙ ap input (append_assoc text chunk (joined chunks))

  at-step : heard_in after r ++ hs ≡ input (text ++ (chunk ++ joined chunks))
  unfolding gathered
  at-step = go (ltb (index_of 10 chunk) (length chunk)) refl (g.event text p)
    where
      go : (q : Bool) → ltb (index_of 10 chunk) (length chunk) ≡ q
          → r ≡ cond q (ended (length (bare (text ++ up_to chunk))) (suc (index_of 10 chunk))) (More (min (length (text ++ up_to chunk)) (length buffer)))
          → heard_in after r ++ hs ≡ input (text ++ (chunk ++ joined chunks))
      go true q e = at-end (ltb-true (index_of 10 chunk) (length chunk) q) e
      go false q e = goes_on (ltb-false (index_of 10 chunk) (length chunk) q) e

-- from any point of a run on
pub heard_all : {buffer : List ℕ} {len : ℕ} {chunks : List (List ℕ)} {hs : List Heard} (text : List ℕ) → Pending text buffer len → Run buffer len chunks hs → hs ≡ input (text ++ joined chunks)
heard_all text p (over buffer len r f) = at-over text buffer len r p (f text p)
heard_all text p (step buffer len chunk after r chunks hs g run) = at-step text buffer len chunk after r chunks hs p g (λ t q. heard_all t q run)

-- from its start on, with nothing held in a buffer that has room for the longest line and its end
pub whole-input : {buffer : List ℕ} {chunks : List (List ℕ)} {hs : List Heard} → line_max + 2 ≤ length buffer → Run buffer 0 chunks hs → hs ≡ input (joined chunks)
whole-input {buffer} h run = heard_all [] (record { room = h; unended = refl; held = empty buffer }) run
