-- `bytes::find`: a block that has `b` ends it; behind the blocks, a byte that is `b` does.
use mathlib.Core.Path.{sym}
use native.Mathlib.Omega.{arith}
use Rattle.text.specs.Bytes.{index_of, headed}
use Rattle.text.proofs.Every.{block_at}
use Rattle.text.proofs.Finding as laws
use Rattle.text.proofs.bytes.find.Goals as goal

pub returns-then-k-lt16-clause-some : goal.returns-then-k-lt16-clause-some
returns-then-k-lt16-clause-some c =
    let s = c.args.s.now in
    let i = c.loop-i.i in
    let p = c.as_chunks.ensures in (
      laws.block-found c.args.b s i (block_at s i p.front p.front_len c.loop-i-test.true) (omega (arith, p.front_len, c.loop-i-test.true)) c.loop-i.invariant
          c.place_in-k.ensures c.if-k-lt16.true,
      omega (arith, p.front_len, c.loop-i-test.true, c.if-k-lt16.true),
    )

pub loop-i-preserved : goal.loop-i-preserved
loop-i-preserved c =
    let s = c.args.s.now in
    let i = c.loop-i.i in
    let p = c.as_chunks.ensures in
    laws.block-passed c.args.b s i (block_at s i p.front p.front_len c.loop-i-test.true) (omega (arith, p.front_len, c.loop-i-test.true)) c.loop-i.invariant
    c.place_in-k.ensures (omega (arith, c.if-k-lt16.false))

pub returns-then-s-i-clause-some : goal.returns-then-s-i-clause-some
unfolding index_of
returns-then-s-i-clause-some c =
    let l = c.loop-i-2 in
    let s = c.args.s.now in
    let b = c.args.b in
    (sym (laws.place_here (headed b) s l.i (omega arith) (laws.headed-is s l.i b c.if-s-i.true) l.invariant), omega arith)

pub loop-i-2-preserved : goal.loop-i-2-preserved
unfolding index_of
loop-i-2-preserved c =
    let l = c.loop-i-2 in
    let s = c.args.s.now in
    let b = c.args.b in
    laws.place-next (headed b) s l.i (omega arith) (laws.headed-not s l.i b c.if-s-i.false) l.invariant

pub returns-clause-none : goal.returns-clause-none
unfolding index_of
returns-clause-none c =
    let l = c.loop-i-2 in
    let s = c.args.s.now in
    let e = laws.place_none (headed c.args.b) s l.i (omega arith) l.invariant in
    omega (arith, e)
