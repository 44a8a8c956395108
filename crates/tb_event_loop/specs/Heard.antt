-- What a connection hears of its socket, when that was read or written.
use Rattle.std.specs.Prelude.{◌≡◌, ℕ, List, [], ◌∷◌, length, slice_set}
use Rattle.std.specs.Option.{option_map}
use Rattle.tb_event_loop.specs.Connection.{ended, leaving, with_bytes, read_failed, write_failed}
use Rattle.tb_event_loop.specs.Deeds.{Deed, IsRead, IsWrite, called}
use Rattle.tb_event_loop.specs.Places.{connection_in}
use Rattle.tb_event_loop.specs.Sockets.{read, unread, unwritten, wrote}
use Rattle.tb_event_loop.specs.declared.connection.Connection.{Connection}
use Rattle.tb_event_loop.specs.declared.places.Places.{Places}

-- that bytes came, that no more will, that none were taken, or what failed
abbrev pub heard_by : Deed → Connection → Connection
heard_by (called (read place [])) connection = ended connection
heard_by (called (read place (byte ∷ bytes))) connection =
    with_bytes (length (byte ∷ bytes)) connection
heard_by (called (unread place kind)) connection = read_failed kind connection
heard_by (called (wrote place [])) connection = leaving connection
heard_by (called (unwritten place kind)) connection = write_failed kind connection
heard_by deed connection = connection

-- its socket was read, and it heard what came of that
abbrev pub Reads : ℕ → Connection → Connection → Deed → Type 0
Reads place old new deed = IsRead place deed × (new ≡ heard_by deed old)

-- its socket was written, and it heard what came of that
abbrev pub Writes : ℕ → Connection → Connection → Deed → Type 0
Writes place old new deed = IsWrite place deed × (new ≡ heard_by deed old)

-- the connection of a place heard it
abbrev pub HearsOf : ℕ → Places → Places → Deed → Type 0
HearsOf place old new deed = new.connections.items
    ≡ slice_set old.connections.items place (option_map (heard_by deed) (connection_in old place))

abbrev pub ReadsAt : ℕ → Places → Places → Deed → Type 0
ReadsAt place old new deed = IsRead place deed × HearsOf place old new deed

abbrev pub WritesAt : ℕ → Places → Places → Deed → Type 0
WritesAt place old new deed = IsWrite place deed × HearsOf place old new deed
