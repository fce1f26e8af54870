-- Where a reply waits, the searcher joins it; else one opens.
use mathlib.Core.Path.{sym, ap, ◌∙◌}
use mathlib.Core.List.{List}
use Prim.Native.Nat.{ℕ}
use Rattle.engine.specs.Passes.{asked_of}
use Rattle.engine.specs.Arrays.{entry_at, entries}
use Rattle.engine.specs.Changes.{change_at, blank, with_active}
use Rattle.engine.specs.declared.advertisement.ResponseNeeded.TheVariants.{Unicast}
use Rattle.engine.proofs.NameRows.{entry-is}
use Rattle.engine.proofs.TablePasses.{needed-is, need-of, ask-opens, ask-joins, own_type, target-type}
use Rattle.engine.proofs.pending.ask_for.Goals as goal

pub returns-then-not-is_none : goal.returns-then-not-is_none
returns-then-not-is_none c =
    λ n h m.
    let a = c.args in
    let found = needed-is a.i a.numbers.now a.texts.now c.reply_at-needed.ensures in
    ask-joins a.search.now.due (asked_of a.search.now) (entry_at a.i a.numbers.now a.texts.now) (entry-is n a.i a.numbers.now a.texts.now h) c.requires.1 found
    (sym c.is_none.ensures ∙ c.if-not-is_none.true) (c.asked.ensures ∙ need-of a.search.now.due a.search.now.target.now a.search.now.sender a.search.now.receiver c.reply_at-needed.result) (c.store_reply.ensures n a.texts.now h m)

pub returns-then-wants_all : goal.returns-then-wants_all
returns-then-wants_all c =
    λ n h m.
    let a = c.args in
    let e = entry_at a.i a.numbers.now a.texts.now in
    ask-opens a.search.now.due (asked_of a.search.now) e (entry-is n a.i a.numbers.now a.texts.now h) c.requires.1
    (needed-is a.i a.numbers.now a.texts.now c.reply_at-needed.ensures) (sym c.is_none.ensures ∙ c.if-not-is_none.false)
    (own_type e.service a.search.now.target.now (c.wants_all.ensures a.search.now.target.now a.search.now.found) c.if-wants_all.true) (c.own_type_at.ensures n h m)

pub returns-else-wants_all : goal.returns-else-wants_all
returns-else-wants_all c =
    λ n h m.
    let a = c.args in
    let e = entry_at a.i a.numbers.now a.texts.now in
    ask-opens a.search.now.due (asked_of a.search.now) e (entry-is n a.i a.numbers.now a.texts.now h) c.requires.1
    (needed-is a.i a.numbers.now a.texts.now c.reply_at-needed.ensures) (sym c.is_none.ensures ∙ c.if-not-is_none.false)
    (target-type e.service a.search.now.target.now (c.wants_all.ensures a.search.now.target.now a.search.now.found) c.if-wants_all.false)
    (c.open_at.ensures n h m ∙ ap (λ (t : List ℕ). change_at blank a.i (with_active (Unicast a.search.now.due a.search.now.sender a.search.now.receiver) t) (entries n a.numbers.now a.texts.now)) a.search.now.padded)
