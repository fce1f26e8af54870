-- The datagram of a `data` line (document 01, 'The session program'): `|` is bytes 13 and 10.
use Rattle.std.specs.Prelude.{ℕ, cond, List, [], ◌∷◌, eqb}
use Rattle.console.specs.Each.{each}

-- what a byte of the line stands for
unfoldable pub unbarred : ℕ → List ℕ
unbarred b = cond (eqb b 124) (13 ∷ 10 ∷ []) (b ∷ [])

unfoldable pub datagram : List ℕ → List ℕ
datagram s = each unbarred s
