-- A message whose texts go by other names is the same message; and which searches a refresh announces.
use mathlib.Core.Path.{◌≡◌, sym, ◌∙◌, ap}
use mathlib.Core.Bool.{Bool, true, false, cond}
use mathlib.Core.List.{List, [], ◌∷◌, append-nil}
use Prim.Native.Nat.{ℕ}
use Rattle.engine.specs.Target.{ssdp_all}
use Rattle.engine.specs.Held.{Text}
use Rattle.engine.specs.Records.{Record, ResponseFrom, flat, any_all, searches_of, search_on}
use Rattle.engine.specs.declared.advertisement.Endpoint.{Endpoint}

pub response-texts : (source : ℕ) (to : Endpoint) {service service' name name' location location' : List ℕ} → service ≡ service' → name ≡ name' → location ≡ location'
    → ◌≡◌ {A = List Record} (ResponseFrom source to service name location ∷ []) (ResponseFrom source to service' name' location' ∷ [])
response-texts source to p q r = cc

-- one search for all where any subscription is for all, else one for each
module _ (up : List ℕ) (ts : List Text) where
  pub for_all : true ≡ any_all ts → search_on up ssdp_all ≡ flat (search_on up) (searches_of ts)
  unfolding searches_of flat
  for_all e = sym (append-nil (search_on up ssdp_all)) ∙ ap (λ (w : Bool). flat (search_on up) (cond w (ssdp_all ∷ []) ts)) e

  pub for_each : false ≡ any_all ts → flat (search_on up) ts ≡ flat (search_on up) (searches_of ts)
  unfolding searches_of
  for_each e = ap (λ (w : Bool). flat (search_on up) (cond w (ssdp_all ∷ []) ts)) e
