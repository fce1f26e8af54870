-- What a readable line asks of the engine (document 01, 'The session program').
use Rattle.std.specs.Prelude.{ℕ, Option, Some, None, List, take, drop}
use Rattle.text.specs.declared.white.Place.{Place}
use Rattle.console.specs.Datagram.{datagram}
use Rattle.console.specs.Hexadecimal.{unhexed}
use Rattle.console.specs.declared.command.Command.{Command}
use Rattle.console.specs.declared.command.Command.TheVariants as line
use Rattle.engine.specs.Layout.{big_endian4}
use Rattle.engine.specs.Calls.{Call, NewLink, DeletedLink, NewAddress, DeletedAddress, Subscribe, Advertise, Deadvertise, Refresh, Datagram, Timeout, ResetTimer}

-- a line has at most 4,096 bytes and each may stand for two, so that no datagram is cut; an address in hexadecimal has at most 32
abbrev pub datagram_max : ℕ
datagram_max = 8192

abbrev pub address_max : ℕ
address_max = 32

-- a part of a line
abbrev pub part_of : List ℕ → Place → List ℕ
part_of s p = take p.len (drop p.start s)

-- no call; the engine's beginning, with seed and time; so many bytes to lend from now on; or a call on the engine
pub data Asked : Type 0 where
  Nothing : Asked
  Begin : ℕ → ℕ → Asked
  Lend : ℕ → Asked
  Of : Call → Asked

-- what the command of a line asks, `room` bytes being lent
unfoldable pub asked : List ℕ → ℕ → Option Command → Asked
asked s room None = Nothing
asked s room (Some (line.New seed time)) = Begin seed time
asked s room (Some (line.NewLink index flags outcome)) = Of (NewLink index flags outcome room)
asked s room (Some (line.DeletedLink index outcome)) = Of (DeletedLink index outcome)
asked s room (Some (line.NewAddress index address)) = Of (NewAddress index (big_endian4 address) room)
asked s room (Some (line.DeletedAddress index address)) = Of (DeletedAddress index (big_endian4 address))
asked s room (Some (line.Subscribe service)) = Of (Subscribe (part_of s service) room)
asked s room (Some (line.Advertise name service location)) = Of (Advertise (part_of s name) (part_of s service) (part_of s location) room)
asked s room (Some (line.Deadvertise name)) = Of (Deadvertise (part_of s name) room)
asked s room (Some line.Refresh) = Of (Refresh room)
asked s room (Some (line.Datagram time sender port receiver text)) =
    Of (Datagram time (record { address = sender; port = port }) receiver (take datagram_max (datagram (part_of s text))))
asked s room (Some (line.Timeout time)) = Of (Timeout time room)
asked s room (Some (line.Reset time)) = Of (ResetTimer time)
asked s room (Some (line.Lend n)) = Lend n
asked s room (Some (line.HexDatagram time sender port receiver digits)) =
    Of (Datagram time (record { address = sender; port = port }) receiver (take datagram_max (unhexed (part_of s digits))))
asked s room (Some (line.NewHexAddress index digits)) = Of (NewAddress index (take address_max (unhexed (part_of s digits))) room)
asked s room (Some (line.DeletedHexAddress index digits)) = Of (DeletedAddress index (take address_max (unhexed (part_of s digits))))
