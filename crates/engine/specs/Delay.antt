-- How long a reply to a search waits: document 01, 'Engine and ledger', with the delay of document 02's change 2.
use Rattle.std.specs.Prelude.{ℕ, ◌*◌, ◌%◌, min}

-- the milliseconds over which replies are spread: 'min(1000·MX, 5000)'
abbrev pub window : ℕ → ℕ
window mx = min (1000 * mx) 5000

-- 'seed mod min(1000·MX, 5000), with no 10 added'; an MX of 0 is refused
unfoldable pub delay : ℕ → ℕ → ℕ
delay seed mx = seed % window mx
