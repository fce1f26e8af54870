-- Laws of a build: when it is refused, what it then leaves, and how long each message is besides its texts.
use mathlib.Core.Path.{◌≡◌, refl, sym, ◌∙◌, ap}
use mathlib.Core.Bool.{Bool, true, false, cond}
use mathlib.Core.List.{List, [], ◌∷◌, ◌++◌}
use Prim.Native.Nat.{ℕ, ◌+◌, ◌≤◌}
use native.Mathlib.Omega.{arith}
use native.Mathlib.Nat.{zero-add}
use borrow.Author.Tests.{ltb-false, ne_eqb}
use lib.Dec.{ltb}
use lib.ListN.{length, drop, length-append}
use Rattle.text.specs.Bytes.{bytes}
use Rattle.text.specs.Range.{every}
use Rattle.text.specs.Good.{good_text}
use Rattle.text.specs.Utf8.{utf8, rest}
use Rattle.text.specs.White.{leading, trailing, run}
use Rattle.std.specs.Prelude.{Result, Ok, Err, IsErrAnd}
use Rattle.message.specs.declared.build.BuildError.{BuildError}
use Rattle.message.specs.declared.build.BuildError.TheVariants.{TextOverSize, TextNotGood, BufferShort}
use Rattle.message.specs.Refusals.{accepted, text_over_size, text_not_good, buffer_short}
use Rattle.text.specs.Put.{overwritten, Put}
use Rattle.message.specs.Build.{Bounded, build_refusal, build_number, built, Builds, any_over_size, any_not_good, search_texts, byebye_texts, located_texts, search_text, response_text, notify_text, byebye_text, search_headers, response_headers, notify_headers, byebye_headers, message, header_lines, header_line, search_line, response_line, notify_line, host_text, max_age_text, server_text, boot_headers}

-- lengths: "Bytes besides the fields: search 86, response 116, notify 163, byebye 152"
pub search-length : (st : List ℕ) → length (search_text st) ≡ 86 + length st
unfolding search_text search_headers message header_lines header_line search_line host_text bytes
search-length st = simp length-append (omega arith)

pub response-length : (st usn loc : List ℕ) → length (response_text st usn loc) ≡ 116 + (length st + (length usn + length loc))
unfolding response_text response_headers message header_lines header_line response_line max_age_text server_text boot_headers bytes
response-length st usn loc = simp length-append (omega arith)

pub notify-length : (nt usn loc : List ℕ) → length (notify_text nt usn loc) ≡ 163 + (length nt + (length usn + length loc))
unfolding notify_text notify_headers message header_lines header_line notify_line host_text max_age_text server_text boot_headers bytes
notify-length nt usn loc = simp length-append (omega arith)

pub byebye-length : (nt usn : List ℕ) → length (byebye_text nt usn) ≡ 152 + (length nt + length usn)
unfolding byebye_text byebye_headers message header_lines header_line notify_line host_text max_age_text server_text boot_headers bytes
byebye-length nt usn = simp length-append (omega arith)

-- an accepted build has room
last-test : (over bad short : Bool) → cond over text_over_size (cond bad text_not_good (cond short buffer_short accepted)) ≡ accepted → short ≡ false
last-test true bad short e = absurd (omega (arith, e))
last-test false true short e = absurd (omega (arith, e))
last-test false false true e = absurd (omega (arith, e))
last-test false false false e = refl

-- an error is no acceptance
refuses : (e : BuildError) → build_number e ≡ accepted → ⊥
refuses TextOverSize p = omega (arith, p)
refuses TextNotGood p = omega (arith, p)
refuses BufferShort p = omega (arith, p)

-- what a refused build, and an accepted one, leaves
module _ (texts : List Bounded) (message buffer : List ℕ) {k : ℕ} (right : k ≡ build_refusal texts (length message) (length buffer)) where
  pub refused : (e : BuildError) (r : Result ℕ BuildError) → build_number e ≡ k → IsErrAnd r (λ x. x ≡ e) → Builds texts message buffer buffer (built r)
  refused e (Ok n) p q = absurd q
  refused e (Err x) p q =
      let n : build_number x ≡ k = ap build_number q ∙ p in
      record {
        refusal = n ∙ right;
        len = sym (ap (λ (t : Bool). cond t (length message) 0) (ne_eqb (build_number x) 0 (refuses x)));
        written = sym (ap (λ (t : Bool). cond t (message ++ drop (length message) buffer) buffer) (ne_eqb (build_number x) 0 (refuses x)));
      }

  pub room : accepted ≡ k → length message ≤ length buffer
  unfolding build_refusal
  room z = ltb-false (length buffer) (length message) (last-test (any_over_size texts) (any_not_good texts) (ltb (length buffer) (length message)) (sym (z ∙ right)))

  pub done : {after : List ℕ} {l : ℕ} → accepted ≡ k → Put buffer 0 message after l → Builds texts message buffer after (built (Ok l))
  unfolding overwritten
  done z p = record {
    refusal = z ∙ right;
    len = p.place ∙ zero-add (length message);
    written = p.written ∙ ap (λ (k : ℕ). message ++ drop k buffer) (zero-add (length message));
  }

-- an empty text is good
good-empty : good_text [] ≡ true
unfolding good_text utf8 rest leading trailing run every
good-empty = refl

pub good_missing : (s : List ℕ) → length s ≡ 0 → true ≡ good_text s
good_missing [] e = sym good-empty
good_missing (a ∷ s) e = absurd (omega arith)

-- the refusal over three texts is that over the texts that a message has, since an empty one is within its size and good
module _ (room : ℕ) where
  one-text : (st : List ℕ) (k : ℕ) → build_refusal (located_texts st [] []) k room ≡ build_refusal (search_texts st) k room
  unfolding build_refusal
  one-text st k = rw good-empty

  two-texts : (nt usn : List ℕ) (k : ℕ) → build_refusal (located_texts nt usn []) k room ≡ build_refusal (byebye_texts nt usn) k room
  unfolding build_refusal
  two-texts nt usn k = rw good-empty

  pub search-refusal : (st : List ℕ)
      → build_refusal (located_texts st [] []) (86 + (length st + (0 + 0))) room ≡ build_refusal (search_texts st) (length (search_text st)) room
  search-refusal st =
      one-text st (86 + (length st + (0 + 0)))
      ∙ ap (λ (k : ℕ). build_refusal (search_texts st) k room) (omega (arith, search-length st))

  pub byebye-refusal : (nt usn : List ℕ)
      → build_refusal (located_texts nt usn []) (152 + (length nt + (length usn + 0))) room
      ≡ build_refusal (byebye_texts nt usn) (length (byebye_text nt usn)) room
  byebye-refusal nt usn =
      two-texts nt usn (152 + (length nt + (length usn + 0)))
      ∙ ap (λ (k : ℕ). build_refusal (byebye_texts nt usn) k room) (omega (arith, byebye-length nt usn))

  pub response-refusal : (st usn loc : List ℕ)
      → build_refusal (located_texts st usn loc) (116 + (length st + (length usn + length loc))) room
      ≡ build_refusal (located_texts st usn loc) (length (response_text st usn loc)) room
  response-refusal st usn loc = ap (λ (k : ℕ). build_refusal (located_texts st usn loc) k room) (sym (response-length st usn loc))

  pub notify-refusal : (nt usn loc : List ℕ)
      → build_refusal (located_texts nt usn loc) (163 + (length nt + (length usn + length loc))) room
      ≡ build_refusal (located_texts nt usn loc) (length (notify_text nt usn loc)) room
  notify-refusal nt usn loc = ap (λ (k : ℕ). build_refusal (located_texts nt usn loc) k room) (sym (notify-length nt usn loc))
