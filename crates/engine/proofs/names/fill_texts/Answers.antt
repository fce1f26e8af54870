-- Each text is within its place, and leaves those before it.
use native.Mathlib.Omega.{arith}
use Rattle.engine.proofs.NameRows as names
use Rattle.engine.proofs.names.fill_texts.Goals as goal

pub returns : goal.returns
returns c =
    names.new-texts c.args.row.now _ _ _ c.args.new.now.name.now c.args.new.now.service.now c.args.new.now.location.text.now c.requires
    (omega arith) (omega arith) (omega arith)
    (omega arith) (omega arith) (omega arith) c.put.ensures c.put-2.ensures c.put-3.ensures
