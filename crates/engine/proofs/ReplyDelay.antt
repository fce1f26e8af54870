-- The delay of a reply: it is inside the window.
use Prim.Native.Nat.{ℕ, ◌≤◌, ◌<◌}
use native.Mathlib.Omega.{arith}
use native.Mathlib.Nat.{mod-lt, mod-le}
use Rattle.engine.specs.Delay.{window, delay}

-- a search with a window is answered within it
pub delay-inside : (seed mx : ℕ) → 0 < mx → delay seed mx < window mx
unfolding delay
delay-inside seed mx p = mod-lt seed {m = window mx} (omega arith)

-- whatever the window, a delay is no more than the seed
pub delay-seed : (seed mx : ℕ) → delay seed mx ≤ seed
unfolding delay
delay-seed seed mx = mod-le seed (window mx)
