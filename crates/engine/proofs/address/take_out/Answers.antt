-- An address that is held has a place, which the last takes; one that is not held leaves the list as it is.
use mathlib.Core.Path.{sym, ◌∙◌, ap}
use mathlib.Core.List.{List}
use Prim.Native.Nat.{ℕ}
use lib.Dec.{eqb}
use Rattle.std.specs.List.{position}
use Rattle.engine.proofs.AddressLists as addresses
use Rattle.engine.proofs.address.take_out.Goals as goal

pub returns-in-Some : goal.returns-in-Some
returns-in-Some c =
    let x = c.args.address in
    let l = c.args.addresses.now.items in
    c.swap_remove.ensures.items
    ∙ addresses.moved x l c.in-Some.at c.swap_remove.result (ap (λ (s : List ℕ). position (λ a. eqb a x) s) (sym c.deref.ensures.0) ∙ sym c.place_of.ensures ∙ c.in-Some.is)

pub returns-in_default : goal.returns-in_default
returns-in_default c =
    let x = c.args.address in
    addresses.gone x c.args.addresses.now.items (ap (λ (s : List ℕ). position (λ a. eqb a x) s) (sym c.deref.ensures.0) ∙ sym c.place_of.ensures ∙ c.in_default.is)
