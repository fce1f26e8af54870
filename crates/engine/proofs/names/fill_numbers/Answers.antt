-- Five stores in a row, read back.
use Rattle.engine.proofs.NameRows as names
use Rattle.engine.proofs.names.fill_numbers.Goals as goal

pub returns : goal.returns
returns c = names.new-numbers c.args.row.now c.args.name_len c.args.service_len c.args.location_len c.requires
