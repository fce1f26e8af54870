-- `put_header` meets its contract: three texts, each right behind the one before.
use native.Mathlib.Omega.{arith}
use Rattle.text.proofs.Writing.{behind}
use Rattle.message.proofs.build.put_header.Goals as goal

pub returns : goal.returns
returns c =
    let first = c.put-a in
    let second = c.put-b in
    let third = c.put in
    let pre = c.requires in
    record { put = behind (omega arith) (behind (omega arith) first.ensures second.ensures) third.ensures; value = omega arith }
