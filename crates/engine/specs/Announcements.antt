-- What goes to the group from every address on an up link: document 01, 'Outbox'.
use Rattle.std.specs.Prelude.{ℕ, List, map}
use Rattle.engine.specs.Records.{Record, SearchFrom, NotifyFrom, ByeByeFrom}
use Rattle.engine.specs.declared.announce.Announcement.{Announcement}
use Rattle.engine.specs.declared.announce.Announcement.TheVariants.{Search, Alive, ByeBye}

-- its record from one address
abbrev pub announced : Announcement → ℕ → Record
announced (Search service) source = SearchFrom source service.now
announced (Alive service name location) source = NotifyFrom source service.now name.now location.text.now
announced (ByeBye service name) source = ByeByeFrom source service.now name.now

-- and from each of these
abbrev pub announced_on : List ℕ → Announcement → List Record
announced_on up what = map (announced what) up
