-- What the claim rests on of the leaves below it: laws of `target_match` and of `rewritten`, gathered so that its proofs see these and no more.
use Prim.Native.Nat.{ℕ, ◌+◌, ◌≤◌}
use mathlib.Core.Path.{◌≡◌}
use mathlib.Core.Bool.{true, false}
use lib.ListN.{length}
use Rattle.text.specs.Bytes.{equal}
use Rattle.text.specs.Good.{good_text}
use Rattle.engine.specs.Target.{ssdp_all, target_match}
use Rattle.engine.specs.Location.{rewritten}
use Rattle.engine.specs.Held.{Text}
use Rattle.engine.proofs.Matching as matching
use Rattle.engine.proofs.Rewriting as rewriting

pub record Laws : Type 0 where
  -- a type matches itself; a target that matches a good type, other than `ssdp:all`, is a good text
  pub match_self : (t : Text) → target_match t t ≡ true
  pub match_good : (s t : Text) → target_match s t ≡ true → equal s ssdp_all ≡ false → good_text t ≡ true → good_text s ≡ true
  -- a rewritten location stays a good text and grows by a dotted address at most
  pub rewritten-good : (l : Text) (a : ℕ) → good_text l ≡ true → good_text (rewritten l a) ≡ true
  pub rewritten-length : (l : Text) (a : ℕ) → length (rewritten l a) ≤ length l + 15

-- each is proved where its definition stands
pub laws : Laws
laws = record {
  match_self = matching.match_self;
  match_good = matching.match_good;
  rewritten-good = rewriting.rewritten-good;
  rewritten-length = rewriting.rewritten-length;
}
