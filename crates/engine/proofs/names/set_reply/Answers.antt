-- Each reply is what its five numbers say.
use mathlib.Core.Path.{sym, ◌∙◌}
use Rattle.engine.specs.Arrays.{reply_of}
use Rattle.engine.proofs.NameRows as names
use borrow.Author.Rules.{rules}
use Rattle.engine.proofs.names.set_reply.Goals as goal

pub returns-in-None : goal.returns-in-None
unfolding reply_of
returns-in-None c = names.replied (sym c.in-None.is) c.set_numbers.ensures

pub returns-in-Multicast : goal.returns-in-Multicast
unfolding reply_of
returns-in-Multicast c = names.replied (sym c.in-Multicast.is) c.set_numbers-in-Multicast.ensures

pub returns-in-Unicast : goal.returns-in-Unicast
returns-in-Unicast c = names.replied (names.lone _ _ _ _ (search rules) (search rules) (search rules) ∙ sym c.in-Unicast.is) c.set_numbers-in-Unicast.ensures
