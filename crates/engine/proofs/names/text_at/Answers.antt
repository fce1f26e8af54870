-- A text of row i, by its place in the arrays.
use native.Mathlib.Omega.{arith}
use mathlib.Core.Path.{◌∙◌}
use Rattle.engine.proofs.NameRows as names
use Rattle.engine.proofs.names.text_at.Goals as goal

pub returns : goal.returns
returns c =
    let a = c.args in
    c.text_in.ensures
    ∙ names.text_at a.i a.numbers.now a.texts.now c.requires.0 (omega arith) a.«length_place» a.place a.size c.requires.1 c.requires.2
