-- The four texts in a row.
use Prim.Native.Nat.{◌≤◌}
use mathlib.Core.List.{◌++◌}
use lib.ListN.{length, get_or}
use native.Mathlib.Omega.{arith}
use Rattle.text.proofs.Writing.{behind, text}
use Rattle.engine.specs.Location.{decimal, decimal_dot, dotted}
use Rattle.engine.proofs.location.put_dotted.Goals as goal

pub returns : goal.returns
unfolding dotted
returns c =
    let room = c.requires in
    let fits : c.args.at ≤ length c.args.buf.now = omega (arith, room) in
    let e = c.to_be_bytes.ensures in
    record {
      put =
          text (behind fits (behind fits (behind fits c.put_decimal_dot-a.ensures.put c.put_decimal_dot-b.ensures.put) c.put_decimal_dot-c.ensures.put) c.put_decimal.ensures.put)
          (λ i. decimal_dot (get_or (e i) 0 0) ++ decimal_dot (get_or (e i) 1 0) ++ decimal_dot (get_or (e i) 2 0) ++ decimal (get_or (e i) 3 0));
      upper_bound = omega (arith, c.put_decimal.ensures.upper_bound, c.put_decimal_dot-c.ensures.upper_bound, c.put_decimal_dot-b.ensures.upper_bound, c.put_decimal_dot-a.ensures.upper_bound);
    }
