-- `build_response`: refused, nothing was written; accepted, the buffer has room and the text was put over its start.
use native.Mathlib.Omega.{arith}
use lib.ListN.{length}
use Rattle.message.specs.Build.{located_texts, response_text}
use Rattle.message.proofs.Building.{refused, done, room, response-refusal, response-length}
use Rattle.message.proofs.build.build_response.Goals as goal

pub returns-in_err-check : goal.returns-in_err-check
returns-in_err-check c = let k = c.args.search_target.now in let n = c.args.unique_service_name.now in let l = c.args.location.now in refused (located_texts k n l) (response_text k n l) c.args.buf.now (response-refusal (length c.args.buf.now) k n l) _ _ c.in_err-check.ensures c.from_residual.ensures.1

pub put_response-requires : goal.put_response-requires
put_response-requires c = let k = c.args.search_target.now in let n = c.args.unique_service_name.now in let l = c.args.location.now in let h = room (located_texts k n l) (response_text k n l) c.args.buf.now (response-refusal (length c.args.buf.now) k n l) c.in_ok-check.ensures in omega (arith, response-length k n l)

pub returns : goal.returns
returns c = let k = c.args.search_target.now in let n = c.args.unique_service_name.now in let l = c.args.location.now in done (located_texts k n l) (response_text k n l) c.args.buf.now (response-refusal (length c.args.buf.now) k n l) c.in_ok-check.ensures c.put_response.ensures
