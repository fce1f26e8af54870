-- `build_search`: refused, nothing was written; accepted, the buffer has room and the text was put over its start.
use native.Mathlib.Omega.{arith}
use lib.ListN.{length}
use Rattle.message.specs.Build.{search_texts, search_text}
use Rattle.message.proofs.Building.{refused, done, room, search-refusal, search-length}
use Rattle.message.proofs.build.build_search.Goals as goal

pub returns-in_err-check : goal.returns-in_err-check
returns-in_err-check c = let k = c.args.search_type.now in refused (search_texts k) (search_text k) c.args.buf.now (search-refusal (length c.args.buf.now) k) _ _ c.in_err-check.ensures c.from_residual.ensures.1

pub put_search-requires : goal.put_search-requires
put_search-requires c = let k = c.args.search_type.now in let h = room (search_texts k) (search_text k) c.args.buf.now (search-refusal (length c.args.buf.now) k) c.in_ok-check.ensures in omega (arith, search-length k)

pub returns : goal.returns
returns c = let k = c.args.search_type.now in done (search_texts k) (search_text k) c.args.buf.now (search-refusal (length c.args.buf.now) k) c.in_ok-check.ensures c.put_search.ensures
