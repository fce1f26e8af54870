-- `on_text` meets its contract: there is room for what it reads.
use Rattle.std.proofs.Common.{refl, sym, rules}
use Rattle.console.specs.Datagram.{datagram}
use Rattle.dialogue.specs.Asking.{datagram_max}
use Rattle.dialogue.proofs.Calling.{front_of}
use Rattle.dialogue.proofs.call.on_text.Goals as goal

pub returns : goal.returns
returns c = rw (sym (front_of datagram datagram_max c.front.ensures c.write_datagram-n.ensures (search rules) refl)) c.on_data.ensures
