-- `gather` meets its contract: the part of the chunk through its first byte 10 is appended.
use Rattle.std.proofs.Common.{refl, sym, arith}
use lib.Seq.{length-take-le}
use Rattle.console.proofs.Gathering.{goes_on, comes_to_end}
use Rattle.console.proofs.input.gather.Goals as goal

pub returns-in_default : goal.returns-in_default
returns-in_default c = goes_on c.args.chunk.now refl (omega (arith, c.in_default.ensures.none)) c.append.ensures

pub slice_bounds-append-end : goal.slice_bounds-append-end
slice_bounds-append-end c = sym (length-take-le _ _ (omega (arith, c.in-Some.ensures.some)))

pub returns : goal.returns
returns c = comes_to_end c.args.chunk.now c.in-Some.ensures.some.0 c.in-Some.ensures.some.1 c.append-held.ensures c.event_in.ensures
