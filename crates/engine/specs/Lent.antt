-- What stands in the tables that a call which sends is lent.
use Rattle.std.specs.Prelude.{List}
use Rattle.engine.specs.Held.{Text, Advertisement}
use Rattle.engine.specs.Arrays.{names_in, searches_in}
use Rattle.engine.specs.declared.lent.Tables.{Tables}

abbrev pub searches_lent : Tables → List Text
searches_lent t = searches_in t.head.now t.searches.now

abbrev pub names_lent : Tables → List Advertisement
names_lent t = names_in t.head.now t.numbers.now t.texts.now
