-- The addresses that messages go out from, gathered link by link: `out` are those so far, `rest` the links that are left.
use mathlib.Core.Path.{◌≡◌, sym, ◌∙◌, ap}
use mathlib.Core.Bool.{cond}
use mathlib.Core.List.{List, [], ◌∷◌, ◌++◌, append_assoc, append-nil}
use Prim.Native.Nat.{ℕ, ◌+◌, ◌*◌, ◌≤◌}
use native.Mathlib.Omega.{arith}
use lib.ListN.{length, length-append}
use Rattle.engine.specs.Sizes.{addresses_max}
use Rattle.engine.proofs.Counting.{cond-most}
use Rattle.engine.specs.Held.{Link}
use Rattle.engine.specs.Links.{up_addresses}

module _ (ls : List Link) where
  pub record Gathering (i : ℕ) (rest : List Link) (out : List ℕ) : Type 0 where
    pub done : out ++ up_addresses rest ≡ up_addresses ls
    pub few : length out ≤ addresses_max * i

  pub gather_turn : {i : ℕ} {rest more : List Link} {a : Link} {out out' : List ℕ} → rest ≡ a ∷ more → out' ≡ out ++ cond a.up a.addresses [] → length a.addresses ≤ addresses_max
      → Gathering i rest out → Gathering (i + 1) more out'
  unfolding up_addresses
  gather_turn {i} {rest} {more} {a} {out} e s small g = record {
    done =
        ap (λ (t : List ℕ). t ++ up_addresses more) s
        ∙ append_assoc out (cond a.up a.addresses []) (up_addresses more)
        ∙ ap (λ (t : List Link). out ++ up_addresses t) (sym e)
        ∙ g.done;
    few = omega (arith, ap length s, length-append out (cond a.up a.addresses []), cond-most a.up a.addresses addresses_max small, g.few);
  }

  pub gather_over : {i : ℕ} {rest : List Link} {out : List ℕ} → rest ≡ [] → Gathering i rest out → out ≡ up_addresses ls
  unfolding up_addresses
  gather_over {out = out} e g = sym (append-nil out) ∙ ap (λ (t : List Link). out ++ up_addresses t) (sym e) ∙ g.done
