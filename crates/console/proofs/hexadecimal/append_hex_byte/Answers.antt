-- `append_hex_byte` meets its contract: two digits, one behind the other.
use mathlib.Core.Path.{ap}
use mathlib.Core.List.{[], ◌∷◌}
use Prim.Native.Nat.{ℕ}
use Rattle.console.specs.Hexadecimal.{hex_byte}
use Rattle.console.proofs.Appending as laws
use Rattle.console.proofs.hexadecimal.append_hex_byte.Goals as goal

pub returns : goal.returns
unfolding hex_byte
returns c =
    laws.◌⨟◌ (laws.text c.push-next.ensures (ap (λ (d : ℕ). d ∷ []) c.digit_of.ensures))
    (laws.text c.push.ensures (ap (λ (d : ℕ). d ∷ []) c.digit_of-2.ensures))
