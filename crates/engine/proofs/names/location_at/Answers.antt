-- The location of row i, by its places in the row; it is cut to its size.
use Rattle.engine.specs.Arrays.{entry_in}
use Rattle.engine.proofs.NameRows as names
use Rattle.engine.proofs.names.location_at.Goals as goal

pub returns : goal.returns
unfolding entry_in
returns c = c.text_at-text.ensures

pub invariant_of-result : goal.invariant_of-result
unfolding entry_in
invariant_of-result c =
    let a = c.args in
    record { fits = names.location-fits a.i a.numbers.now a.texts.now c.text_at-text.ensures }
