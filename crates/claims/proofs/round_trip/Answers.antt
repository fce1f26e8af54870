-- The round trip, as the messages' proofs have it.
use Rattle.message.proofs.RoundTrip.{round_trip}
use Rattle.claims.proofs.round_trip.Goals as goal

pub returns : goal.returns
returns c = round_trip
