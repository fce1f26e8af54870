-- An accepted time and a delay fit; the parts of the search on which replies depend are handed on.
use mathlib.Core.Path.{refl, ap, ◌∙◌}
use lib.ListN.{length, take}
use lib.Seq.{take_at}
use Rattle.text.specs.Put.{overwritten}
use Prim.Native.Nat.{ℕ, ◌+◌}
use Rattle.engine.proofs.ReplyDelay.{delay-seed}
use Rattle.engine.proofs.TablePasses.{asked_by_lem}
use native.Mathlib.Omega.{arith}
use Rattle.engine.proofs.pending.searched.Goals as goal

pub invariant_of-search : goal.invariant_of-search
unfolding overwritten
invariant_of-search c =
    let t = c.args.target.now in
    record {
      fits = c.requires.0;
      padded = ap (take (length t)) c.put.ensures.written ∙ take_at t _ (length t) refl;
      found = c.wanted_of.ensures;
    }

pub overflow_add-search : goal.overflow_add-search
overflow_add-search c =
    let pre = c.requires in
    omega (arith, c.ranges.seed, c.delay_of.ensures, delay-seed c.args.seed c.args.mx)

pub returns : goal.returns
returns c =
    let a = c.args in
    asked_by_lem a.seed _ (record { target = a.target.now; mx = a.mx; sender = a.sender; receiver = a.receiver; time = a.time })
    (ap (λ (d : ℕ). a.time + d) c.delay_of.ensures) c.ask_all.ensures
