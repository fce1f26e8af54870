-- The zeros of `fill` stand in the place of as many bytes.
use Rattle.std.proofs.Common.{◌≡◌, ℕ, ◌+◌, ◌-◌, List, ◌++◌, length, take, drop, ap, sym, ◌∙◌, arith, append_assoc, length-drop}
use lib.ListN.{replicate, length-replicate}
use lib.Seq.{length-take-le, drop-drop}
use borrow.Rule.Slice.PartMut.{put_mid}
use Rattle.text.specs.Put.{Put, overwritten}
use Rattle.engine.proofs.outbox.clear.Goals as goal

cleared : (b ys : List ℕ) (at n k m : ℕ) → k ≡ n → m ≡ n → ys ≡ replicate m 0 → Put b at (replicate n 0) (put_mid at k b ys) (at + n)
unfolding overwritten
cleared b ys at n k m e f g = record {
  place = ap (λ (x : ℕ). at + x) (sym (length-replicate n 0));
  written =
      ap (λ (x : ℕ). put_mid at x b ys) e ∙ ap (put_mid at n b) (g ∙ ap (λ (x : ℕ). replicate x 0) f)
      ∙ sym (append_assoc (take at b) (replicate n 0) (drop n (drop at b)))
      ∙ ap (λ (l : List ℕ). take at b ++ replicate n 0 ++ l) (drop-drop n at b ∙ ap (λ (x : ℕ). drop (at + x) b) (sym (length-replicate n 0)));
}

pub returns : goal.returns
returns c =
    let a = c.args in
    let k : a.at + a.n - a.at ≡ a.n = omega arith in
    let long : length (take (a.at + a.n - a.at) (drop a.at a.buf.now)) ≡ a.n = length-take-le _ _ (omega (arith, c.requires, length-drop a.at a.buf.now)) ∙ k in
    cleared a.buf.now c.fill.new.self a.at a.n _ _ k long (c.fill.ensures.after (λ y e. e))
