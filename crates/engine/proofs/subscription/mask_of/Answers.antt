-- Each turn puts the bit of the subscription before below the mask; there are too few subscriptions to fill it.
use mathlib.Core.Path.{◌∙◌, ap}
use Prim.Native.Nat.{◌<◌}
use lib.ListN.{drop}
use native.Mathlib.Omega.{arith}
use Rattle.engine.specs.Target.{target_match}
use Rattle.engine.specs.Held.{Text}
use Rattle.engine.specs.Arrays.{searches_in}
use Rattle.engine.proofs.Masks as masks
use Rattle.engine.proofs.SearchRows as rows
use Rattle.engine.proofs.subscription.mask_of.Goals as goal

pub loop-i-init : goal.loop-i-init
loop-i-init c =
    let s = c.args in
    (omega (arith, c.count_of-n.ensures), masks.mask-none s.service.now (rows.none_left s.head.now s.searches.now c.count_of-n.result (omega (arith, c.count_of-n.ensures))))

pub overflow_mul-mask : goal.overflow_mul-mask
overflow_mul-mask c =
    let s = c.args in
    let h = c.loop-i in
    let small : h.mask < 2147483648 = rw h.invariant.1 (masks.mask_fits s.service.now (drop h.i (searches_in s.head.now s.searches.now)) (omega (arith, rows.left_length s.head.now s.searches.now h.i))) in
    omega arith

pub overflow_add-mask : goal.overflow_add-mask
overflow_add-mask c =
    let s = c.args in
    let h = c.loop-i in
    let small : h.mask < 2147483648 = rw h.invariant.1 (masks.mask_fits s.service.now (drop h.i (searches_in s.head.now s.searches.now)) (omega (arith, rows.left_length s.head.now s.searches.now h.i))) in
    omega (arith, masks.bit-below c.target_match-bit.result)

pub loop-i-preserved : goal.loop-i-preserved
loop-i-preserved c =
    let s = c.args in
    let h = c.loop-i in
    (omega arith, masks.mask-turn s.service.now h.mask _ (rows.last-is s.head.now s.searches.now h.i (omega arith) (omega arith)) (c.target_match-bit.ensures ∙ ap (λ (t : Text). target_match t s.service.now) c.service_at.ensures) h.invariant.1)
