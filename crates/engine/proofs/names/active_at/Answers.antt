-- Field by field.
use Rattle.std.proofs.Common.{◌≡◌, List, ℕ}
use Rattle.engine.specs.Held.{Advertisement}
use Rattle.engine.specs.Arrays.{entry_in}
use Rattle.engine.specs.declared.advertisement.ResponseNeeded.{ResponseNeeded}
use Rattle.engine.proofs.names.active_at.Goals as goal

whole : (a : Advertisement) {name service location answer : List ℕ} {needed : ResponseNeeded} → name ≡ a.name → service ≡ a.service → location ≡ a.location → needed ≡ a.needed → answer ≡ a.answer
    → record { name = name; service = service; location = location; needed = needed; answer = answer } ≡ a
whole a p q r s t = rw (p, q, r, s, t)

pub returns : goal.returns
unfolding entry_in
returns c = whole _ c.name_at.ensures c.service_at.ensures c.location_at.ensures c.reply_at.ensures c.text_at.ensures
