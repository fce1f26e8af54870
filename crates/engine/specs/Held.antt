-- What an engine holds, without the padding of its tables: contracts and claims go by it. specs/Arrays.antt says what arrays hold it.
use Rattle.std.specs.Prelude.{ℕ, Bool, true, false, List, [], eqb, ltb}
use Rattle.text.specs.Bytes.{order, equal}
use Rattle.std.specs.declared.cmp.Ordering.{Ordering}
use Rattle.std.specs.declared.cmp.Ordering.TheVariants.{Less, Equal, Greater}
use Rattle.engine.specs.Table.{Key}
use Rattle.engine.specs.RefreshTimer.{timer_new}
use Rattle.engine.specs.declared.refresh_timer.RefreshTimer.{RefreshTimer}
use Rattle.engine.specs.declared.interface.Interface.{Interface}
use Rattle.engine.specs.declared.advertisement.ResponseNeeded.{ResponseNeeded}

abbrev pub Text : Type 0
Text = List ℕ

-- 'Links and addresses': addresses are IPv4, as 32-bit numbers, in the order in which they were stored
pub record Link : Type 0 where
  pub index : ℕ
  pub up : Bool
  pub addresses : List ℕ

-- 'Engine and ledger': an advertisement holds its waiting reply; `answer` is the type of the reply to a lone searcher
pub record Advertisement : Type 0 where
  pub name : Text
  pub service : Text
  pub location : Text
  pub needed : ResponseNeeded
  pub answer : Text

-- what is held beside the advertisements
pub record Context : Type 0 where
  pub seed : ℕ
  pub timer : RefreshTimer
  pub links : List Link
  pub subscriptions : List Text

pub record Held : Type 0 where
  pub context : Context
  pub advertisements : List Advertisement

-- ---- a link that was taken out of its row
unfoldable pub link_of : Interface → Link
link_of i = record { index = i.index; up = i.up; addresses = i.addresses.items }

-- what is held, part by part
abbrev pub holding : ℕ → RefreshTimer → List Link → List Text → List Advertisement → Held
holding seed timer links subscriptions advertisements = record {
  context = record { seed = seed; timer = timer; links = links; subscriptions = subscriptions };
  advertisements = advertisements;
}

-- an engine that has just begun, with a seed, at a time
unfoldable pub fresh : ℕ → ℕ → Held
fresh seed time = holding seed (timer_new seed time) [] [] []

-- ---- the keys of the two ordered tables
abbrev pub is_less : Ordering → Bool
is_less Less = true
is_less Equal = false
is_less Greater = false

abbrev pub by_name : {A : Type 0} → (A → Text) → Key Text A
by_name of = record { of = of; below = λ x y. is_less (order x y); same = equal }

abbrev pub by_index : Key ℕ Link
by_index = record { of = λ l. l.index; below = ltb; same = eqb }

abbrev pub advertised : Key Text Advertisement
advertised = by_name (λ a. a.name)
