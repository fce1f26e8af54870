-- What is taken out of the row of a name: the entry that it stands for.
use Rattle.engine.specs.Held.{Advertisement}
use Rattle.engine.specs.declared.advertisement.ActiveAdvertisement.{ActiveAdvertisement}

abbrev pub entry : ActiveAdvertisement → Advertisement
entry a = record { name = a.name.now; service = a.service.now; location = a.location.text.now; needed = a.response_needed; answer = a.answer.now }
