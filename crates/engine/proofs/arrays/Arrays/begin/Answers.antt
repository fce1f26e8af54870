-- `begin` meets its contract: whatever stands in the other arrays.
use Rattle.engine.proofs.arrays.Arrays.begin.Goals as goal

pub returns : goal.returns
returns c = let a = c.args.self.now in c.new.ensures a.links a.searches a.texts
