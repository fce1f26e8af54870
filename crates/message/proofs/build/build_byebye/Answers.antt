-- `build_byebye`: refused, nothing was written; accepted, the buffer has room and the text was put over its start.
use native.Mathlib.Omega.{arith}
use lib.ListN.{length}
use Rattle.message.specs.Build.{byebye_texts, byebye_text}
use Rattle.message.proofs.Building.{refused, done, room, byebye-refusal, byebye-length}
use Rattle.message.proofs.build.build_byebye.Goals as goal

pub returns-in_err-check : goal.returns-in_err-check
returns-in_err-check c = let k = c.args.notification_type.now in let n = c.args.unique_service_name.now in refused (byebye_texts k n) (byebye_text k n) c.args.buf.now (byebye-refusal (length c.args.buf.now) k n) _ _ c.in_err-check.ensures c.from_residual.ensures.1

pub put_byebye-requires : goal.put_byebye-requires
put_byebye-requires c = let k = c.args.notification_type.now in let n = c.args.unique_service_name.now in let h = room (byebye_texts k n) (byebye_text k n) c.args.buf.now (byebye-refusal (length c.args.buf.now) k n) c.in_ok-check.ensures in omega (arith, byebye-length k n)

pub returns : goal.returns
returns c = let k = c.args.notification_type.now in let n = c.args.unique_service_name.now in done (byebye_texts k n) (byebye_text k n) c.args.buf.now (byebye-refusal (length c.args.buf.now) k n) c.in_ok-check.ensures c.put_byebye.ensures
