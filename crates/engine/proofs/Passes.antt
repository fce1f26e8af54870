-- A pass over a table by a loop: `rest` is what is left of the entries behind the first i. A sum, the least instant, and a table of which each entry is replaced.
use mathlib.Core.Path.{◌≡◌, sym, ◌∙◌}
use mathlib.Core.List.{List, [], ◌∷◌}
use Prim.Native.Nat.{ℕ, ◌+◌, ◌≤◌}
use native.Mathlib.Omega.{arith}
use Rattle.engine.specs.Held.{Advertisement}
use Rattle.engine.specs.Replies.{sum_of, sooner, soonest}

-- ---- a sum of what is 1 or 0
module _ {A : Type 0} (f : A → ℕ) (l : List A) where
  pub record Summing (i : ℕ) (rest : List A) (sum : ℕ) : Type 0 where
    pub total : sum_of f l ≡ sum + sum_of f rest
    pub few : sum ≤ i

  pub sum_start : Summing 0 l 0
  sum_start = record { total = omega arith; few = omega arith }

  pub sum_turn : {i : ℕ} {rest more : List A} {a : A} {sum one : ℕ} → rest ≡ a ∷ more → (one ≡ f a) × (one ≤ 1) → Summing i rest sum → Summing (i + 1) more (sum + one)
  unfolding sum_of
  sum_turn {i} {rest} {more} {a} {sum} {one} e h s =
      let z : sum_of f rest ≡ f a + sum_of f more = rw e in
      record { total = omega (arith, s.total, h.0); few = omega (arith, s.few, h.1) }

  pub sum_over : {i : ℕ} {rest : List A} {sum : ℕ} → rest ≡ [] → Summing i rest sum → sum ≡ sum_of f l
  unfolding sum_of
  sum_over {i} {rest} {sum} e s =
      let z : sum_of f rest ≡ 0 = rw e in
      omega (arith, s.total)

-- ---- the earliest instant
pub soonest-turn : (s : ℕ) {t s' : ℕ} {rest more : List Advertisement} {a : Advertisement} → rest ≡ a ∷ more → s' ≡ sooner s a.needed → t ≡ soonest s rest → t ≡ soonest s' more
unfolding soonest
soonest-turn s {t} {s'} {rest} {more} e h p = p ∙ rw (e, h)

pub soonest-over : {t s : ℕ} {rest : List Advertisement} → rest ≡ [] → t ≡ soonest s rest → s ≡ t
unfolding soonest
soonest-over e p = sym (p ∙ rw e)
