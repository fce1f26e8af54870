-- `entry_of`: a line without a colon has no key; the value of a key is trimmed behind the colon.
use mathlib.Core.Path.{refl, sym, ap}
use native.Mathlib.Omega.{arith}
use Prim.Native.Nat.{◌+◌, ◌-◌, ◌≤◌}
use lib.ListN.{length, take, drop, length-take}
use Rattle.text.specs.declared.white.Place.{Place}
use Rattle.text.proofs.Trimming.{trimmed-inside}
use Rattle.message.proofs.Lookup.{without_colon, line-key, value-is}
use Rattle.message.proofs.headers.entry_of.Goals as goal

pub returns-in_err-colon : goal.returns-in_err-colon
returns-in_err-colon c = rw c.from_residual.ensures (without_colon c.args.line.now c.in_err-colon.ensures.none)

pub returns-in_err-key : goal.returns-in_err-key
returns-in_err-key c =
    let colon = c.in_ok-colon.ensures.some in
    rw c.from_residual-in_err-key.ensures (sym (line-key c.args.line.now colon.0 colon.1 refl c.in_err-key.ensures))

pub overflow_add-result : goal.overflow_add-result
overflow_add-result c =
    let line = c.args.line.now in
    let behind = c.in_ok-colon.colon + 1 in
    let value = take (length line - behind) (drop behind line) in
    let inside : length value ≤ length line = omega (arith, length-take (length line - behind) (drop behind line)) in
    omega (arith, c.in_ok-colon.ensures.some.1, ap (λ (p : Place). p.start) c.trim-value.ensures, trimmed-inside value)

pub returns : goal.returns
returns c =
    let colon = c.in_ok-colon.ensures.some in (
      line-key c.args.line.now colon.0 colon.1 refl c.in_ok-key.ensures,
      value-is c.args.line.now colon.0 colon.1 refl c.trim-value.ensures,
    )
