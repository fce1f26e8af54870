-- What a good text is, part by part.
use mathlib.Core.Path.{◌≡◌}
use mathlib.Core.Bool.{true, ◌&&◌, and-eq-true_iff}
use mathlib.Core.List.{List}
use Prim.Native.Nat.{ℕ}
use borrow.Author.Tests.{eqb-true}
use lib.Dec.{eqb}
use lib.ListN.{length}
use Rattle.text.specs.Utf8.{utf8}
use Rattle.text.specs.Bytes.{index_of, lacks}
use Rattle.text.specs.White.{leading, trailing}
use Rattle.text.specs.Good.{good_text}
use Rattle.text.proofs.Finding.{lacks-place}

pub record Good (s : List ℕ) : Type 0 where
  pub encoded : utf8 s ≡ true
  pub no_line_feed : index_of 10 s ≡ length s
  pub no_return : index_of 13 s ≡ length s
  pub front : leading s ≡ 0
  pub end : trailing s ≡ 0

pub good : (s : List ℕ) → good_text s ≡ true → Good s
unfolding good_text
good s e =
    let a = (and-eq-true_iff (utf8 s && lacks 10 s && lacks 13 s && eqb (leading s) 0) (eqb (trailing s) 0)).0 e in
    let b = (and-eq-true_iff (utf8 s && lacks 10 s && lacks 13 s) (eqb (leading s) 0)).0 a.0 in
    let c = (and-eq-true_iff (utf8 s && lacks 10 s) (lacks 13 s)).0 b.0 in
    let d = (and-eq-true_iff (utf8 s) (lacks 10 s)).0 c.0 in
    record {
      encoded = d.0;
      no_line_feed = lacks-place 10 s d.1;
      no_return = lacks-place 13 s c.1;
      front = eqb-true (leading s) 0 b.1;
      end = eqb-true (trailing s) 0 a.1;
    }
