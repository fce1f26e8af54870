-- `on_hexadecimal` meets its contract: there is room for what it reads.
use Rattle.std.proofs.Common.{refl, sym, rules}
use Rattle.console.specs.Hexadecimal.{unhexed}
use Rattle.dialogue.specs.Asking.{datagram_max}
use Rattle.dialogue.proofs.Calling.{front_of}
use Rattle.dialogue.proofs.call.on_hexadecimal.Goals as goal

pub returns : goal.returns
returns c = rw (sym (front_of unhexed datagram_max c.front.ensures c.write_unhexed-n.ensures (search rules) refl)) c.on_data.ensures
