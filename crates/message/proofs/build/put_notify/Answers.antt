-- `put_notify` meets its contract: three lines, each right behind the one before.
use native.Mathlib.Omega.{arith}
use Rattle.text.specs.Bytes.{bytes}
use Rattle.message.specs.Build.{header_line, notify_line, host_text, max_age_text}
use Rattle.text.proofs.Writing.{◌⨟◌}
use Rattle.message.proofs.build.put_notify.Goals as goal

pub returns : goal.returns
unfolding header_line notify_line host_text max_age_text bytes
returns c =
    let first = c.put-a.ensures in
    let host = c.put-b.ensures in
    let age = c.put.ensures in
    record { put = first ⨟ host ⨟ age; value = omega arith }
