-- The bytes of the seed, the lowest first, are what is left of its quotients by powers of 256.
use Rattle.std.proofs.Common.{◌≡◌, ℕ, zero, suc, ◌%◌, ◌/◌, ◌^◌, ◌<◌, refl, arith}
use Rattle.std.specs.Int.{w32, to_le_bytes}
use lib.ListN.{get_or}
use Rattle.engine.specs.RefreshTimer.{seed_byte}
use Rattle.engine.proofs.refresh_timer.seed_byte.Goals as goal

byte : (seed i : ℕ) → i < 4 → get_or (to_le_bytes w32 seed) i 0 ≡ seed / 256 ^ i % 256
byte seed zero h = omega arith
byte seed (suc zero) h = refl
byte seed (suc (suc zero)) h = refl
byte seed (suc (suc (suc zero))) h = refl
byte seed (suc (suc (suc (suc i)))) h = absurd (omega arith)

pub returns : goal.returns
unfolding seed_byte
returns c = rw (c.to_le_bytes.ensures, c.from.ensures) (byte c.args.seed (c.args.phase % 4) (omega arith))
