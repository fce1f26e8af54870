-- A reply that is due ends and is counted; any other stays.
use mathlib.Core.Path.{◌≡◌, sym, ◌∙◌, ap}
use mathlib.Core.Bool.{Bool, cond}
use Rattle.engine.specs.Replies.{is_alone, is_group}
use Rattle.engine.specs.Arrays.{entry_at, entries}
use Rattle.engine.specs.Changes.{blank, change_at, with_active}
use Rattle.engine.specs.Held.{Advertisement}
use Rattle.engine.specs.declared.advertisement.ResponseNeeded.TheVariants.{None}
use Rattle.engine.proofs.NameRows.{entry-is}
use Rattle.engine.proofs.TablePasses.{needed-is, serve_due, serve_later}
use Rattle.engine.proofs.pending.serve_one.Goals as goal
use Rattle.engine.proofs.pending.serve_one.Goals.{then-is_due, else-is_due}

pub returns : goal.returns
returns c =
    λ n texts h m.
    let a = c.args in
    let s = c.due_of.ensures in
    let here = entry-is n a.i a.numbers.now texts h in
    let is = needed-is a.i a.numbers.now texts c.reply_at-needed.ensures in
    let needed = c.reply_at-needed.result in
    elim c.if-is_due.branch [
      | then-is_due w ↦
          let d = sym c.is_due.ensures ∙ w.if-is_due.true in
          let ended : entries n w.store_reply.new.numbers texts ≡ change_at blank a.i (λ (b : Advertisement). with_active None b.answer b) (entries n a.numbers.now texts) = w.store_reply.ensures n texts h m in
          rw w.numbers-is (serve_due a.time (entry_at a.i a.numbers.now texts) here is d ended
          (s.0.0 ∙ ap (λ (b : Bool). cond b (is_alone needed) 0) d, s.0.1) (s.1.0 ∙ ap (λ (b : Bool). cond b (is_group needed) 0) d, s.1.1))
      | else-is_due w ↦
          let d = sym c.is_due.ensures ∙ w.if-is_due.false in
          let none : c.due_of.result.alone ≡ 0 = s.0.0 ∙ ap (λ (b : Bool). cond b (is_alone needed) 0) d in
          let neither : c.due_of.result.group ≡ 0 = s.1.0 ∙ ap (λ (b : Bool). cond b (is_group needed) 0) d in
          rw (w.numbers-is, none, neither) (serve_later a.time (entry_at a.i a.numbers.now texts) here is d)
    ]
