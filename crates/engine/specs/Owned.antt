-- The engine in the arrays of an owner that holds them together.
use Rattle.engine.specs.Arrays.{Engine, engine}
use Rattle.engine.specs.declared.arrays.Arrays.{Arrays}

abbrev pub engine_in : Arrays → Engine
engine_in a = engine a.head a.links a.searches a.numbers a.texts
