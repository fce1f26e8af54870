-- `write_unhexed` meets its contract: the byte of each pair of digits is written.
use Rattle.std.proofs.Common.{◌∙◌, ◌/◌, ◌<◌, arith, ap, length, get_or}
use Rattle.console.specs.Hexadecimal.{pairs, unhexed, nibble}
use Rattle.console.proofs.Appending.{filled, text}
use Rattle.console.proofs.Pairs.{pairs_start, pairs-turn, digit-of-pair}
use Rattle.console.proofs.hexadecimal.write_unhexed.Goals as goal

pub loop-high-init : goal.loop-high-init
loop-high-init c = pairs_start c.args.text.now c.args.buf.now 0

pub loop-high-preserved : goal.loop-high-preserved
loop-high-preserved c =
    let s = c.args.text.now in
    let i = c.loop-high.high-index in
    let p = c.as_chunks.ensures in
    let h : i < length s / 2 = omega (arith, p.front_len, c.loop-high-test.true) in
    pairs-turn s i (c.nibble_of.ensures.value ∙ ap nibble (digit-of-pair s (length s / 2) i 0 p.front h (omega arith) ∙ ap (λ n. get_or s n 0) (omega arith)))
    (c.nibble_of-in-loop-high.ensures.value ∙ ap nibble (digit-of-pair s (length s / 2) i 1 p.front h (omega arith)))
    c.loop-high.invariant c.push-len.ensures

pub returns : goal.returns
unfolding unhexed
returns c = filled (text c.loop-high.invariant (ap (λ n. pairs n c.args.text.now) (omega (arith, c.as_chunks.ensures.front_len))))
