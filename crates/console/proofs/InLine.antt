-- Laws of a line's fields: each is first read as a text, which ends at the next tab, and then as its form.
use mathlib.Core.Path.{◌≡◌, refl, sym, ◌∙◌, ap}
use mathlib.Core.Bool.{Bool, true, false, cond, ◌&&◌}
use mathlib.Core.List.{List}
use Prim.Native.Nat.{ℕ, ◌+◌, ◌/◌, ◌≤◌, ◌<◌}
use native.Mathlib.Omega.{arith}
use borrow.Author.Tests.{le-leb, lt-leb}
use lib.Dec.{leb}
use lib.ListN.{length, take, drop}
use Rattle.std.proofs.Common.{Option, Some, None}
use Rattle.std.specs.Bool.{then_some}
use Rattle.std.specs.Option.{IfSome, IfNone, unwrap_or}
use Rattle.std.proofs.lemmas.Option.{none-some, same_Some}
use lib.Seq.{length-take-le, take_all}
use Rattle.text.specs.Bytes.{index_of}
use Rattle.text.proofs.Finding.{index_of-le}
use Rattle.text.specs.declared.white.Place.{Place}
use Rattle.console.specs.Field.{Form, Text, Rest, Of, is_rest, extent, read_as, part, hex_part, field_at, next_at, Reads}
use Rattle.console.specs.Hexadecimal.{hexadecimal}
use Rattle.console.specs.declared.field.Fields.{Fields}

pub chosen : {A : Type 0} (b : Bool) (x : A) → then_some b x ≡ cond b (Some x) None
chosen true x = refl
chosen false x = refl

pub if_some : {A : Type 0} (r : Option A) {P : Type 0} → P → IfSome r (λ _. P)
if_some None p = tt
if_some (Some x) p = p

pub if_none : {A : Type 0} (r : Option A) {P : Type 0} → P → IfNone r P
if_none None p = p
if_none (Some x) p = tt

-- where the next tab stands, or else the line ends
pub tab : (s : List ℕ) (r : Option ℕ) {n : ℕ} → IfSome r (λ i. (i ≡ index_of 9 s) × (i < length s)) → IfNone r (index_of 9 s ≡ length s) → n ≡ unwrap_or r (length s)
    → n ≡ index_of 9 s
tab s (Some i) h g e = e ∙ h.0
tab s None h g e = e ∙ sym g

module _ (s s' : Fields) where
  -- there is no field
  pub reads_none : (form : Form) → length s.line.now < s.at → s'.line.now ≡ s.line.now → s'.at ≡ s.at → Reads form s s' None
  unfolding field_at
  reads_none form h l a =
      record { line = l; field = rw (lt-leb s.at (length s.line.now) h) refl; next = tt; unread = rw (lt-leb s.at (length s.line.now) h) a }

  -- a field that reaches to the next tab, and the rest of the line
  pub reads-text : {rest : List ℕ} {n : ℕ} → s.at ≤ length s.line.now → rest ≡ drop s.at s.line.now → n ≡ index_of 9 rest → n ≤ length rest → s'.line.now ≡ s.line.now
      → s'.at ≡ s.at + (n + 1) → Reads Text s s' (Some (record { start = s.at; len = n }))
  unfolding field_at next_at extent
  reads-text {rest} {n} h p q m l e = record {
    line = l;
    field = rw (le-leb s.at (length s.line.now) h, ← p, ← q, length-take-le n rest m) refl;
    next = rw (← p, ← q) (omega (arith, e));
    unread = tt;
  }

  pub reads-rest : {rest : List ℕ} → s.at ≤ length s.line.now → rest ≡ drop s.at s.line.now → s'.line.now ≡ s.line.now
      → s'.at ≡ s.at + (length rest + 1) → Reads Rest s s' (Some (record { start = s.at; len = length rest }))
  unfolding field_at next_at extent
  reads-rest {rest} h p l e = record {
    line = l;
    field = rw (le-leb s.at (length s.line.now) h, ← p, take_all (length rest) rest (omega arith)) refl;
    next = rw (← p) (omega (arith, e));
    unread = tt;
  }

  -- a text is read as another form that ends at the next tab
  pub reads_not : (form : Form) → is_rest form ≡ false → Reads Text s s' None → Reads form s s' None
  unfolding field_at next_at extent
  reads_not form e r = record { line = r.line; field = go (leb s.at (length s.line.now)) refl r.field; next = tt; unread = rw e r.unread }
    where
      go : (b : Bool) → leb s.at (length s.line.now) ≡ b
          → None ≡ cond b (Some (part s.at (take (extent Text (drop s.at s.line.now)) (drop s.at s.line.now)))) None
          → ◌≡◌ {A = Option (Of form)} None (cond (leb s.at (length s.line.now)) (read_as form s.at (take (extent form (drop s.at s.line.now)) (drop s.at s.line.now))) None)
      go true p q = absurd (none-some _ q)
      go false p q = rw p refl

  as-text : (form : Form) (n : ℕ) (d : List ℕ) → n ≤ length d → d ≡ drop s.at s.line.now → {p : Place} → p ≡ part s.at (take n d) → {text : List ℕ} → text ≡ take p.len (drop p.start s.line.now)
      → (r : Option (Of form)) → r ≡ read_as form p.start text → r ≡ read_as form s.at (take n d)
  as-text form n d h f {p} e i r q = q ∙ rw (i, e, ← f, length-take-le n d h) refl

  pub reads-as : (form : Form) → is_rest form ≡ false → {p : Place} {text : List ℕ} → Reads Text s s' (Some p) → text ≡ take p.len (drop p.start s'.line.now)
      → (r : Option (Of form)) → r ≡ read_as form p.start text → Reads form s s' r
  unfolding field_at next_at extent
  reads-as form e {p} {text} t i r q = record {
    line = t.line;
    field = go (leb s.at (length s.line.now)) t.field;
    next = if_some r (rw e t.next);
    unread = if_none r (past (leb s.at (length s.line.now)) t.field);
  }
    where
      d : List ℕ
      d = drop s.at s.line.now

      past : (b : Bool) → Some p ≡ cond b (Some (part s.at (take (index_of 9 d) d))) None
          → s'.at ≡ cond b (s.at + cond (is_rest form) (length d) (index_of 9 d) + 1) s.at
      past true u = rw e t.next
      past false u = absurd (none-some _ (sym u))

      go : (b : Bool) → Some p ≡ cond b (Some (part s.at (take (index_of 9 d) d))) None
          → r ≡ cond b (read_as form s.at (take (cond (is_rest form) (length d) (index_of 9 d)) d)) None
      go true u =
          rw e (as-text form (index_of 9 d) d (index_of-le 9 d) refl (same_Some _ _ u) (i ∙ ap (λ (l : List ℕ). take p.len (drop p.start l)) t.line) r q)
      go false u = absurd (none-some _ (sym u))

  -- hexadecimal of at most so many bytes
  text-length : {p : Place} {text : List ℕ} → Reads Text s s' (Some p) → text ≡ take p.len (drop p.start s'.line.now) → length text ≡ p.len
  unfolding field_at extent
  text-length {p} {text} t i = go (leb s.at (length s.line.now)) t.field
    where
      d : List ℕ
      d = drop s.at s.line.now

      go : (b : Bool) → Some p ≡ cond b (Some (part s.at (take (index_of 9 d) d))) None → length text ≡ p.len
      go true u =
          ap length (i ∙ ap (λ (l : List ℕ). take p.len (drop p.start l)) t.line)
          ∙ rw (same_Some _ _ u, length-take-le (index_of 9 d) d (index_of-le 9 d)) (length-take-le (index_of 9 d) d (index_of-le 9 d))
      go false u = absurd (none-some _ (sym u))

  pub hex-text : (max : ℕ) {p : Place} {text : List ℕ} → Reads Text s s' (Some p) → text ≡ take p.len (drop p.start s'.line.now) → (b : Bool) → b ≡ (hexadecimal text && leb (length text / 2) max)
      → then_some b p ≡ hex_part max p.start text
  unfolding hex_part
  hex-text max {p} {text} t i b q =
      chosen b p ∙ ap (λ (y : Bool). cond y (Some p) None) q
      ∙ ap (λ (k : ℕ). cond (hexadecimal text && leb (length text / 2) max) (Some (record { start = p.start; len = k })) None) (sym (text-length t i))
