-- The parts that come back are rows of the new name.
use mathlib.Core.Path.{refl}
use native.Mathlib.Omega.{arith}
use Rattle.engine.proofs.NameRows as names
use Rattle.engine.proofs.names.filled.Goals as goal

pub returns : goal.returns
returns c =
    let s = c.args in
    names.new_row s.i s.numbers.now s.texts.now c.fill_numbers.new.row c.fill_texts.new.row s.new.now.name.now s.new.now.service.now s.new.now.location.text.now
    (omega arith) (omega arith) refl refl refl
    c.fill_numbers.ensures c.fill_texts.ensures
