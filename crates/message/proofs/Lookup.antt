-- One reading of a datagram's lines gives the header of every key. The table of the latest headers, merged with what the lines to come hold, stays
-- what all the lines hold.
use mathlib.Core.Path.{◌≡◌, refl, sym, ◌∙◌, ap}
use mathlib.Core.Bool.{Bool, true, false, cond, ◌&&◌}
use mathlib.Core.List.{List, [], ◌∷◌}
use Prim.Native.Nat.{ℕ, ◌+◌, ◌-◌, ◌≤◌, ◌<◌}
use native.Mathlib.Omega.{arith}
use borrow.Author.Tests.{lt-ltb, le-ltb, ltb-true}
use lib.ListN.{length, take, drop, set, length-drop, drop_of_length-le}
use lib.Seq.{take_all, set_out, drop-drop, length-take-le}
use Rattle.text.specs.Bytes.{equal_upper}
use Rattle.text.specs.Lines.{lines, bare, first_line}
use Rattle.text.specs.White.{trimmed}
use Rattle.text.specs.declared.lines.Line.{Line}
use Rattle.text.specs.declared.white.Place.{Place}
use Rattle.text.proofs.FirstLine.{Joined, joined}
use Rattle.text.proofs.Trimming.{trimmed-inside}
use Rattle.message.specs.Headers.{colon, has_colon, shifted, value_of, line_header, later, header_in, header_from, headers_from, keys, key_index, line_key, place_of}
use Rattle.message.specs.declared.headers.Key.{Key}
use Rattle.message.specs.declared.headers.Key.TheVariants.{Nt, St, Mx, Nts, Usn, Location}
use Rattle.message.specs.Headers.{Header}
use Rattle.std.specs.Prelude.{None, Some}
use Rattle.message.proofs.Keys.{merge, merge-ext, merge-merge, merge-absent, merge-fresh, stored_at}

-- the key and the value of a line
module _ (line : List ℕ) where
  key-is : colon line < length line → key_index keys (take (colon line) line) ≡ line_key line
  unfolding line_key
  key-is h = sym (ap (λ (t : Bool). cond t (key_index keys (take (colon line) line)) 6) (lt-ltb (colon line) (length line) h))

  pub without_colon : colon line ≡ length line → line_key line ≡ 6
  unfolding line_key
  without_colon h = ap (λ (t : Bool). cond t (key_index keys (take (colon line) line)) 6) (le-ltb (colon line) (length line) (omega arith))

  module _ {c : ℕ} (at : c ≡ colon line) (found : c < length line) where
    pub line-key : {k : ℕ} {key : List ℕ} → key ≡ take c line → k ≡ key_index keys key → k ≡ line_key line
    line-key {k} {key} e f = f ∙ ap (key_index keys) e ∙ ap (λ (i : ℕ). key_index keys (take i line)) at ∙ key-is (omega (arith, at))

    pub value-is : {value : List ℕ} {p : Place} → value ≡ take (length line - (c + 1)) (drop (c + 1) line) → p ≡ trimmed value
        → record { start = c + 1 + p.start; len = p.len } ≡ value_of line
    unfolding value_of
    value-is {value} {p} v t =
        let w : value ≡ drop (c + 1) line = v ∙ take_all (length line - (c + 1)) (drop (c + 1) line) (omega (arith, length-drop (c + 1) line)) in
        ap (shifted (c + 1)) (t ∙ ap trimmed w) ∙ ap (λ (i : ℕ). shifted (i + 1) (trimmed (drop (i + 1) line))) at

-- a key has a place among the six
pub place_below : (k : Key) → place_of k < 6
place_below Nt = omega arith
place_below St = omega arith
place_below Mx = omega arith
place_below Nts = omega arith
place_below Usn = omega arith
place_below Location = omega arith

-- a value starts in its line
value-inside : (line : List ℕ) → colon line < length line → (value_of line).start ≤ length line
unfolding value_of
value-inside line h = omega (arith, trimmed-inside (drop (colon line + 1) line), length-drop (colon line + 1) line)

keyed-inside : (line : List ℕ) → line_key line < 6 → (value_of line).start ≤ length line
unfolding line_key
keyed-inside line h = go (has_colon line) refl h
  where
    go : (b : Bool) → has_colon line ≡ b → cond b (key_index keys (take (colon line) line)) 6 < 6 → (value_of line).start ≤ length line
    go true q r = value-inside line (ltb-true (colon line) (length line) q)
    go false q r = absurd (omega (arith, r))

-- the table once a line was read
module _ (line : List ℕ) (at : ℕ) (latest : List Header) (six : length latest ≡ 6) where
  noted : merge (λ k. line_header k at line) keys latest ≡ set latest (line_key line) (Some (shifted at (value_of line)))
  unfolding line_header line_key
  noted = go (has_colon line)
    where
      go : (b : Bool) → merge (λ k. cond (b && equal_upper (take (colon line) line) k) (Some (shifted at (value_of line))) None) keys latest
          ≡ set latest (cond b (key_index keys (take (colon line) line)) 6) (Some (shifted at (value_of line)))
      go true = stored_at (take (colon line) line) (shifted at (value_of line)) latest six
      go false = merge-absent keys latest ∙ sym (set_out latest 6 (Some (shifted at (value_of line))) (omega (arith, six)))

  pub noted-entry : {key : ℕ} {value : Place} → key ≡ line_key line → value ≡ value_of line
      → merge (λ k. line_header k at line) keys latest ≡ set latest key (Some (record { start = at + value.start; len = value.len }))
  noted-entry {key} e f = noted ∙ ap (λ (k : ℕ). set latest k (Some (shifted at (value_of line)))) (sym e) ∙ ap (λ (p : Place). set latest key (Some (shifted at p))) (sym f)

  pub noted_other : line_key line ≡ 6 → merge (λ k. line_header k at line) keys latest ≡ latest
  noted_other e = noted ∙ set_out latest (line_key line) (Some (shifted at (value_of line))) (omega (arith, six, e))

-- what the lines from `at` on hold, over the table
abbrev pub ahead : List ℕ → ℕ → List Header → List Header
ahead s at latest = merge (header_from s at) keys latest

-- before the first line
pub begin : (s : List ℕ) (from : ℕ) → ahead s from (None ∷ None ∷ None ∷ None ∷ None ∷ None ∷ []) ≡ headers_from s from
unfolding keys
begin s from = merge-fresh (header_from s from) keys

-- behind the last
pub end : (s : List ℕ) (at : ℕ) (latest : List Header) → length s ≤ at → ahead s at latest ≡ latest
unfolding header_in lines
end s at latest h =
    merge-ext (λ k. ap (λ (l : List ℕ). header_in k at (lines l)) (drop_of_length-le s h)) keys latest ∙ merge-absent keys latest

-- over one line
module _ (s : List ℕ) (at : ℕ) (room : at < length s) {rest : List ℕ} (part : rest ≡ take (length s - at) (drop at s)) {r : Line} (first : r ≡ first_line rest) where
  all_rest : rest ≡ drop at s
  all_rest = part ∙ take_all (length s - at) (drop at s) (omega (arith, length-drop at s))

  line_of : Joined rest r
  line_of = joined rest (omega (arith, ap length all_rest, length-drop at s)) first

  pub line-short : r.len ≤ length rest
  line-short = omega (arith, line_of.short, line_of.inside)

  pub line-inside : at + r.next ≤ length s
  line-inside = omega (arith, line_of.inside, ap length all_rest, length-drop at s)

  pub line-some : 0 < r.next
  line-some = line_of.some

  pub value_room : {key : ℕ} {value : Place} → key < 6 → key ≡ line_key (take r.len rest) → value ≡ value_of (take r.len rest) → at + value.start ≤ length s
  value_room h e f =
      let n : length (take r.len rest) ≡ r.len = length-take-le r.len rest line-short in
      let v : (value_of (take r.len rest)).start ≤ length (take r.len rest) = keyed-inside (take r.len rest) (omega (arith, e)) in
      omega (arith, ap (λ (p : Place). p.start) f, v, n, line-inside, line_of.short)

  lines_cut : lines (drop at s) ≡ take r.next rest ∷ lines (drop (at + r.next) s)
  lines_cut =
      ap lines (sym all_rest) ∙ line_of.cut_off
      ∙ ap (λ (l : List ℕ). take r.next rest ∷ lines (drop r.next l)) all_rest
      ∙ ap (λ (l : List ℕ). take r.next rest ∷ lines l) (drop-drop r.next at s)

  step : (k : List ℕ) → header_in k at (lines (drop at s)) ≡ later (header_in k (at + r.next) (lines (drop (at + r.next) s))) (line_header k at (take r.len rest))
  unfolding header_in
  step k =
      ap (header_in k at) lines_cut
      ∙ ap (λ (n : ℕ). later (header_in k (at + n) (lines (drop (at + r.next) s))) (line_header k at (bare (take r.next rest)))) (length-take-le r.next rest line_of.inside)
      ∙ ap (λ (l : List ℕ). later (header_in k (at + r.next) (lines (drop (at + r.next) s))) (line_header k at l)) line_of.text

  pub turn : (latest : List Header) {latest' : List Header} → merge (λ k. line_header k at (take r.len rest)) keys latest ≡ latest' → ahead s (at + r.next) latest' ≡ ahead s at latest
  turn latest {latest'} e =
      sym (merge-ext step keys latest
      ∙ merge-merge (header_from s (at + r.next)) (λ k. line_header k at (take r.len rest)) keys latest
      ∙ ap (merge (header_from s (at + r.next)) keys) e)
