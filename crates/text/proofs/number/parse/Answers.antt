-- `number::parse`: what is read is not above the type's largest number.
use Prim.Native.Nat.{ℕ}
use mathlib.Core.Path.{sym, ◌∙◌, ap}
use Rattle.text.specs.Number.{number}
use Rattle.text.proofs.Digits.{number-most}
use Rattle.text.proofs.number.parse.Goals as goal

pub returns : goal.returns
returns g c =
    let read = sym (ap (λ (max : ℕ). number max c.args.s.now) c.LARGEST.ensures) ∙ sym c.up_to.ensures ∙ c.in_ok-n.was in
    c.narrowed.ensures (number-most g.T.Width.LARGEST c.args.s.now read) ∙ sym (ap g.T.Width.read read)
