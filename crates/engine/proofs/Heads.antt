-- The head of the arrays: what a store to one place of it leaves of what is read from the others, and a head that begins.
use mathlib.Core.Path.{◌≡◌, sym, ◌∙◌, ap}
use mathlib.Core.Logic.{◌≢◌}
use mathlib.Core.List.{List, [], ◌∷◌}
use Prim.Native.Nat.{ℕ, min, ◌<◌, ◌≤◌}
use native.Mathlib.Omega.{arith}
use lib.ListN.{length, set, get_or, length-set}
use lib.Seq.{get_or-set_same, get_or-set_other}
use Rattle.engine.specs.Sizes.{advertisements_max, links_max, subscriptions_max}
use Rattle.engine.specs.declared.refresh_timer.RefreshTimer.{RefreshTimer}
use Rattle.engine.specs.Arrays.{head_places, seed_place, salvo_place, phase_place, names_place, links_place, searches_place, low32, low8, seed_in, timer_in, link_rows, links_in, search_rows, searches_in, entries, names_in}

min-within : (n m : ℕ) → n ≤ m → min n m ≡ n
min-within n m h = omega arith

-- ---- a place that is none of the timer's
module _ (head : List ℕ) (p n : ℕ) (h : phase_place < p) where
  other : (q : ℕ) → q ≤ phase_place → get_or (set head p n) q 0 ≡ get_or head q 0
  other q g = get_or-set_other head p q n 0 (λ e. omega arith)

  pub seed-kept : seed_in (set head p n) ≡ seed_in head
  unfolding seed_in
  seed-kept = ap low32 (other seed_place (omega arith))

  pub timer-kept : timer_in (set head p n) ≡ timer_in head
  unfolding timer_in
  timer-kept = λ i. record {
    random_seed = seed-kept i;
    next_salvo = other salvo_place (omega arith) i;
    phase = low8 (other phase_place (omega arith) i);
  }

-- ---- a place that is not the table's count
module _ (head : List ℕ) (p n : ℕ) where
  pub links-kept : (links : List ℕ) → links_place ≢ p → links_in (set head p n) links ≡ links_in head links
  unfolding links_in
  links-kept links h = ap (λ (x : ℕ). link_rows (min x links_max) links) (get_or-set_other head p links_place n 0 h)

  pub searches-kept : (searches : List ℕ) → searches_place ≢ p → searches_in (set head p n) searches ≡ searches_in head searches
  unfolding searches_in
  searches-kept searches h = ap (λ (x : ℕ). search_rows (min x subscriptions_max) searches) (get_or-set_other head p searches_place n 0 h)

  pub names-kept : (numbers texts : List ℕ) → names_place ≢ p → names_in (set head p n) numbers texts ≡ names_in head numbers texts
  unfolding names_in
  names-kept numbers texts h = ap (λ (x : ℕ). entries (min x advertisements_max) numbers texts) (get_or-set_other head p names_place n 0 h)

-- ---- the count itself
module _ (head : List ℕ) (n : ℕ) (e : length head ≡ head_places) where
  pub links-counted : (links : List ℕ) → n ≤ links_max → links_in (set head links_place n) links ≡ link_rows n links
  unfolding links_in
  links-counted links h =
      ap (λ (x : ℕ). link_rows (min x links_max) links) (get_or-set_same head links_place n 0 (omega arith)) ∙ ap (λ (x : ℕ). link_rows x links) (min-within n links_max h)

  pub searches-counted : (searches : List ℕ) → n ≤ subscriptions_max → searches_in (set head searches_place n) searches ≡ search_rows n searches
  unfolding searches_in
  searches-counted searches h =
      ap (λ (x : ℕ). search_rows (min x subscriptions_max) searches) (get_or-set_same head searches_place n 0 (omega arith))
      ∙ ap (λ (x : ℕ). search_rows x searches) (min-within n subscriptions_max h)

  pub names-counted : (numbers texts : List ℕ) → n ≤ advertisements_max → names_in (set head names_place n) numbers texts ≡ entries n numbers texts
  unfolding names_in
  names-counted numbers texts h =
      ap (λ (x : ℕ). entries (min x advertisements_max) numbers texts) (get_or-set_same head names_place n 0 (omega arith))
      ∙ ap (λ (x : ℕ). entries x numbers texts) (min-within n advertisements_max h)

-- ---- another salvo instant and phase
abbrev pub timed : List ℕ → RefreshTimer → List ℕ
timed head t = set (set head salvo_place t.next_salvo) phase_place t.phase

module _ (head : List ℕ) (t : RefreshTimer) (e : length head ≡ head_places) where
  beside : (q : ℕ) → q ≢ salvo_place → q ≢ phase_place → get_or (timed head t) q 0 ≡ get_or head q 0
  beside q g h =
      get_or-set_other (set head salvo_place t.next_salvo) phase_place q t.phase 0 h ∙ get_or-set_other head salvo_place q t.next_salvo 0 g

  pub timed-seed : seed_in (timed head t) ≡ seed_in head
  unfolding seed_in
  timed-seed = ap low32 (beside seed_place (λ z. omega arith) (λ z. omega arith))

  pub timed-timer : t.random_seed ≡ seed_in head → t.phase < 256 → timer_in (timed head t) ≡ t
  unfolding timer_in
  timed-timer s h =
      let mid = set head salvo_place t.next_salvo in
      let salvo : get_or (timed head t) salvo_place 0 ≡ t.next_salvo =
      get_or-set_other mid phase_place salvo_place t.phase 0 (λ z. omega arith) ∙ get_or-set_same head salvo_place t.next_salvo 0 (omega arith)
      in
      let phase : low8 (get_or (timed head t) phase_place 0) ≡ t.phase =
      ap low8 (get_or-set_same mid phase_place t.phase 0 (omega (arith, length-set head salvo_place t.next_salvo))) ∙ omega arith
      in
      λ i. record { random_seed = (timed-seed ∙ sym s) i; next_salvo = salvo i; phase = phase i }

  pub timed-links : (links : List ℕ) → links_in (timed head t) links ≡ links_in head links
  unfolding links_in
  timed-links links = ap (λ (x : ℕ). link_rows (min x links_max) links) (beside links_place (λ z. omega arith) (λ z. omega arith))

  pub timed-searches : (searches : List ℕ) → searches_in (timed head t) searches ≡ searches_in head searches
  unfolding searches_in
  timed-searches searches = ap (λ (x : ℕ). search_rows (min x subscriptions_max) searches) (beside searches_place (λ z. omega arith) (λ z. omega arith))

  pub timed-names : (numbers texts : List ℕ) → names_in (timed head t) numbers texts ≡ names_in head numbers texts
  unfolding names_in
  timed-names numbers texts = ap (λ (x : ℕ). entries (min x advertisements_max) numbers texts) (beside names_place (λ z. omega arith) (λ z. omega arith))

-- ---- a head that begins
abbrev pub begun : RefreshTimer → List ℕ
begun t = t.random_seed ∷ t.next_salvo ∷ t.phase ∷ 0 ∷ 0 ∷ 0 ∷ []
