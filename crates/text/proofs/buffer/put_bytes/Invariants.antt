-- `buffer::put_bytes` meets its contract. The invariant: the buffer is the one at entry with the first `i` bytes of the text pasted at `at`. The measure is
-- what is left of the text.
use mathlib.Core.Path.{◌≡◌}
use Prim.Native.Nat.{◌+◌, ◌-◌, ◌≤◌}
use lib.ListN.{length}
use lib.Seq.{paste}
use Rattle.text.proofs.buffer.put_bytes.Given as goal

abbrev pub invariant-loop-i : goal.invariant-loop-i
invariant-loop-i l =
    (l.next ≡ l.at + l.i) × (l.i ≤ length l.text) × (length l.buf ≡ length l.initial.buf) × (l.buf ≡ paste l.initial.buf l.at l.text l.i)

abbrev pub decreases-loop-i : goal.decreases-loop-i
decreases-loop-i l = length l.text - l.i
