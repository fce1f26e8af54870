-- `bytes::place_in`: the lowest bit that is set is that of the first byte which is `b`.
use Rattle.std.proofs.Common.{eqb, sym, ap, ◌∙◌, arith, w8}
use lib.Count.{count_trailing_zeros}
use Rattle.std.proofs.lemmas.Simd.{bitmask_splat, leading_from_mask_l, trailing_mask_l}
use Rattle.text.proofs.Finding.{prefix-is}
use Rattle.text.proofs.bytes.place_in.Goals as goal

pub returns-then-places-eq0 : goal.returns-then-places-eq0
returns-then-places-eq0 c =
    let s = c.args.block.now in
    let places = bitmask_splat w8 eqb s 16 c.args.b c.told-block (omega arith) in
    sym (sym (prefix-is c.args.b s) ∙ leading_from_mask_l (λ x. eqb x c.args.b) s (sym places ∙ c.if-places-eq0.true) ∙ c.told-block)

pub returns : goal.returns
returns c =
    let s = c.args.block.now in
    let places = bitmask_splat w8 eqb s 16 c.args.b c.told-block (omega arith) in
    ap (count_trailing_zeros 64) places ∙ trailing_mask_l (λ x. eqb x c.args.b) 64 s (omega arith) (omega arith) ∙ prefix-is c.args.b s
