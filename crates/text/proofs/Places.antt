-- Laws of a place of a text: what `get` lends from a byte on, and up to one.
use mathlib.Core.Path.{◌≡◌, sym, ◌∙◌, ap}
use mathlib.Core.List.{List, []}
use Prim.Native.Nat.{ℕ, ◌-◌}
use native.Mathlib.Omega.{arith}
use lib.ListN.{length, take, drop, length-drop, drop_of_length-le}
use lib.Seq.{take_all}
use Rattle.std.specs.Prelude.{Option, Some, None}
use Rattle.std.specs.Option.{unwrap_or}
use Rattle.std.specs.Slice.{IsGetRangeResult}
use Rattle.std.proofs.Common.{Bor}

pub behind : (s : List ℕ) (start : ℕ) (r : Option (Bor (List ℕ))) (none : Bor (List ℕ)) → none.now ≡ [] → IsGetRangeResult s start (length s) r → (unwrap_or r none).now ≡ drop start s
behind s start None none e h = e ∙ sym (drop_of_length-le s (omega (arith, h.0)))
behind s start (Some x) none e h = h.0.2 ∙ take_all (length s - start) (drop start s) (omega (arith, length-drop start s))

pub up_to : (rest : Bor (List ℕ)) (n : ℕ) (r : Option (Bor (List ℕ))) → IsGetRangeResult rest.now 0 n r → (unwrap_or r rest).now ≡ take n rest.now
up_to rest n None h = sym (take_all n rest.now (omega (arith, h.0)))
up_to rest n (Some x) h = h.0.2 ∙ ap (λ (k : ℕ). take k rest.now) (omega arith)
