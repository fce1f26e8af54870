-- `good::is_visible`: a block that is not visible ends it; behind the whole blocks the last one decides.
use Prim.Native.Nat.{ℕ, ◌*◌, ◌-◌, ◌<◌}
use lib.ListN.{length, drop, length-drop}
use native.Mathlib.Omega.{arith}
use mathlib.Core.Path.{◌≡◌, sym, ◌∙◌, ap}
use Rattle.text.specs.Good.{visible}
use Rattle.text.proofs.Every as laws
use Rattle.text.proofs.good.is_visible.Goals as goal

pub returns-then-not-all_visible : goal.returns-then-not-all_visible
returns-then-not-all_visible c =
    let s = c.args.s.now in
    let i = c.loop-block.block-index in
    let p = c.as_chunks.ensures in
    laws.block_fails visible s (drop (16 * i) s) 16 (laws.block_at s i p.front p.front_len c.loop-block-test.true) c.loop-block.invariant
    (sym c.all_visible-in-loop-block.ensures ∙ c.if-not-all_visible.true)

pub loop-block-preserved : goal.loop-block-preserved
loop-block-preserved c =
    let s = c.args.s.now in
    let i = c.loop-block.block-index in
    let p = c.as_chunks.ensures in
    laws.block_passes visible s (drop (16 * i) s) 16 (laws.block_at s i p.front p.front_len c.loop-block-test.true) c.loop-block.invariant
    (laws.behind_block s i) (sym c.all_visible-in-loop-block.ensures ∙ c.if-not-all_visible.false)

pub returns : goal.returns
returns c =
    let s = c.args.s.now in
    let i = c.loop-block.block-index in
    let k = c.in-Some.ensures.cases in
    let n : length (drop (16 * i) s) ≡ length s - 16 * i = length-drop (16 * i) s in
    let g : length (drop (16 * i) s) < 16 = omega (arith, n, c.as_chunks.ensures.front_len, c.loop-block-test.false) in
    c.all_visible-2.ensures ∙ laws.block_last visible s (drop (16 * i) s) 16 k.0 g k.1.same
    (ap (λ (m : ℕ). drop m s) (omega (arith, n, c.as_chunks.ensures.front_len, c.loop-block.auto.block-index-end))) c.loop-block.invariant
