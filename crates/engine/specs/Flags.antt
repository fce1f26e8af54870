-- An interface's flags: document 01, 'Links and addresses': UP 1, RUNNING 40, MULTICAST 1000 (hexadecimal).
use Rattle.std.specs.Prelude.{ℕ, Bool, ◌&&◌, eqb}
use Rattle.std.specs.Int.Bits.{bit_and}

abbrev pub up : ℕ
up = 0x1

abbrev pub running : ℕ
running = 0x40

abbrev pub multicast : ℕ
multicast = 0x1000

-- every bit of `wanted` is set in `flags`
unfoldable pub contains : ℕ → ℕ → Bool
contains flags wanted = eqb (bit_and flags wanted) wanted

-- 'Up means UP and RUNNING both.'
unfoldable pub is_up : ℕ → Bool
is_up flags = contains flags up && contains flags running

unfoldable pub is_multicast : ℕ → Bool
is_multicast flags = contains flags multicast
