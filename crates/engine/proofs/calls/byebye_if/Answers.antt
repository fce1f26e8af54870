-- `calls::byebye_if` meets its contract: nothing goes out for a name that is not held.
use mathlib.Core.Path.{◌∙◌, ap, sym}
use mathlib.Core.Bool.{cond}
use mathlib.Core.List.{List, []}
use Prim.Native.Nat.{ℕ}
use Rattle.engine.specs.Arrays.{entry_at, links_in}
use Rattle.std.proofs.Common.{Result}
use Rattle.std.specs.Result.{is_ok}
use Rattle.engine.specs.Spot.{place}
use Rattle.engine.specs.Links.{up_addresses}
use Rattle.engine.specs.Row.{entry}
use Rattle.engine.specs.Records.{Record, byebye_on}
use Rattle.engine.proofs.Sending as sending
use Rattle.engine.proofs.calls.byebye_if.Goals as goal

-- the byebyes of a name, by where it stands
abbrev byebyes : List ℕ → List ℕ → List ℕ → Result ℕ ℕ → List Record
byebyes up numbers texts spot = cond (is_ok spot) (byebye_on up (entry_at (place spot) numbers texts)) []

pub returns-in_default : goal.returns-in_default
returns-in_default c =
    let a = c.args in
    sending.sent-as (sending.sent-nothing _) (ap (byebyes (up_addresses (links_in a.head.now a.links.now)) a.numbers.now a.texts.now) (sym c.in_default.is))

pub returns : goal.returns
returns c =
    let a = c.args in
    let up = up_addresses (links_in a.head.now a.links.now) in
    sending.sent-as c.send_byebye.ensures
    (ap (λ (l : List ℕ). byebye_on l (entry c.active_at.result)) (c.deref.ensures.0 ∙ c.of_up_links-up.ensures)
    ∙ ap (byebye_on up) c.active_at.ensures
    ∙ ap (byebyes up a.numbers.now a.texts.now) (sym c.in-Ok.is))
