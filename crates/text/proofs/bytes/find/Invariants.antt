-- `bytes::find`: the first place is that in what the blocks, or the bytes, so far leave.
use mathlib.Core.Path.{◌≡◌}
use Prim.Native.Nat.{◌+◌, ◌*◌}
use lib.ListN.{drop}
use Rattle.text.specs.Bytes.{index_of}
use Rattle.text.proofs.bytes.find.Given as goal

abbrev pub invariant-loop-i : goal.invariant-loop-i
invariant-loop-i l = index_of l.b l.s ≡ 16 * l.i + index_of l.b (drop (16 * l.i) l.s)

abbrev pub invariant-loop-i-2 : goal.invariant-loop-i-2
invariant-loop-i-2 l = index_of l.b l.s ≡ l.i + index_of l.b (drop l.i l.s)
