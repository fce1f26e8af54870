-- `address_of` meets its contract. The invariant: what is left of the text, behind the octets so far, decides.
use Rattle.std.proofs.Common.{◌≡◌, ◌≤◌, ◌<◌, ◌-◌, length}
use Rattle.console.specs.Address.{address, octets}
use Rattle.console.proofs.Octets.{bound}
use Rattle.console.proofs.address.address_of.Given as goal

abbrev pub invariant-loop : goal.invariant-loop
invariant-loop l = (l.n < bound l.counter) × (length l.rest ≤ length l.s) × (address l.s ≡ octets (3 - l.counter) l.n l.rest)
