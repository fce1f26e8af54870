-- Every record takes 524 bytes: no message passes the 512 behind its head (document 01, 'Messages': "no message passes 506").
use mathlib.Core.Path.{◌≡◌, refl, ◌∙◌}
use mathlib.Core.Bool.{Bool, true, false, cond, ◌||◌, true≢false}
use mathlib.Core.List.{List, [], ◌∷◌}
use Prim.Native.Nat.{ℕ, ◌+◌, ◌-◌, ◌*◌, ◌≤◌}
use native.Mathlib.Omega.{arith}
use native.Mathlib.Nat.{mul-suc}
use borrow.Author.Tests.{ltb-false}
use lib.Dec.{ltb}
use lib.ListN.{length, length-append, length-replicate}
use Rattle.message.specs.Build.{Bounded, any_over_size, any_not_good, search_texts, byebye_texts, located_texts}
use Rattle.message.proofs.Building.{search-length, response-length, notify-length, byebye-length}
use Rattle.engine.specs.Sizes.{record_size, head_size}
use Rattle.engine.specs.Location.{rewritten}
use Rattle.engine.specs.Records.{Record, SearchFrom, NotifyFrom, ByeByeFrom, ResponseFrom, flat}
use Rattle.engine.specs.Layout.{texts_of, text_of, message_of, head_of, framed, record_bytes, layout}

-- texts of which none is over its size are together no longer than the largest sizes together
abbrev lengths : List Bounded → ℕ
lengths [] = 0
lengths (t ∷ ts) = length t.text + lengths ts

abbrev largest : List Bounded → ℕ
largest [] = 0
largest (t ∷ ts) = t.largest + largest ts

within : (ts : List Bounded) → any_over_size ts ≡ false → lengths ts ≤ largest ts
within [] e = omega arith
within (t ∷ ts) e = go (ltb t.largest (length t.text)) refl e (within ts)
  where
    go : (over : Bool) → ltb t.largest (length t.text) ≡ over → over || any_over_size ts ≡ false
        → (any_over_size ts ≡ false → lengths ts ≤ largest ts) → lengths (t ∷ ts) ≤ largest (t ∷ ts)
    go true h e rest = absurd (true≢false e)
    go false h e rest = omega (arith, ltb-false t.largest (length t.text) h, rest e)

-- what the build functions take fits
pub text-fits : (r : Record) → any_over_size (texts_of r) ≡ false → length (text_of r) ≤ record_size - head_size
text-fits (SearchFrom source service) e = omega (arith, search-length service, within (search_texts service) e)
text-fits (NotifyFrom source service name location) e =
    let url = rewritten location source in
    omega (arith, notify-length service name url, within (located_texts service name url) e)
text-fits (ByeByeFrom source service name) e = omega (arith, byebye-length service name, within (byebye_texts service name) e)
text-fits (ResponseFrom source to service name location) e =
    let url = rewritten location source in
    omega (arith, response-length service name url, within (located_texts service name url) e)

pub message-fits : (r : Record) → length (message_of r) ≤ record_size - head_size
unfolding message_of
message-fits r = go (any_over_size (texts_of r)) (any_not_good (texts_of r)) (text-fits r)
  where
    go : (a b : Bool) → (a ≡ false → length (text_of r) ≤ record_size - head_size) → length (cond (a || b) [] (text_of r)) ≤ record_size - head_size
    go true b h = omega arith
    go false true h = omega arith
    go false false h = h refl

pub record-length : (r : Record) → length (record_bytes r) ≡ record_size
unfolding record_bytes framed head_of
record-length r =
    let h = message-fits r in
    simp (length-append, length-replicate) (omega arith)

pub layout-length : (rs : List Record) → length (layout rs) ≡ record_size * length rs
unfolding layout flat
layout-length [] = refl
layout-length (r ∷ rs) = length-append (record_bytes r) (flat record_bytes rs) ∙ omega (arith, record-length r, layout-length rs, mul-suc record_size (length rs))
