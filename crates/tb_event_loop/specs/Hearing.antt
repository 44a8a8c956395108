-- What the system tells of connections is known in the round after.
use Rattle.std.specs.Prelude.{◌≡◌, ◌⊎◌, ℕ, ◌==◌, Bool, false, if◌then◌else◌, List, [], ◌∷◌, Option, Some, None}
use Rattle.tb_event_loop.specs.Connection.{leaving, marked}
use Rattle.tb_event_loop.specs.Places.{connection_in, stage_in}
use Rattle.tb_event_loop.specs.declared.connection.Connection.{Connection}
use Rattle.tb_event_loop.specs.declared.places.Places.{Places}
use Rattle.tb_event_loop.specs.declared.sockets.Told.{Told}
use Rattle.tb_timeouts.specs.Stage.{is_vacant}

abbrev pub is_of : ℕ → Option ℕ → Bool
is_of place None = false
is_of place (Some other) = other == place

-- what was told of one socket, if it is that of the place
abbrev pub marked_if : Told → ℕ → Connection → Connection
marked_if one place connection =
    if is_of place one.place then marked one connection else connection

-- all that was told of the place
abbrev pub marked_by : List Told → ℕ → Connection → Connection
marked_by [] place connection = connection
marked_by (one ∷ told) place connection = marked_by told place (marked_if one place connection)

-- there is this connection, or it leaves
abbrev pub IsStill : Connection → Option Connection → Type 0
IsStill connection found = (found ≡ Some connection) ⊎ (found ≡ Some (leaving connection))

-- Each connection keeps its place, and may be let go there.
abbrev pub Remain : Places → Places → Type 0
Remain old new = (place : ℕ) (connection : Connection)
    → connection_in old place ≡ Some connection → is_vacant (stage_in old place) ≡ false
    → IsStill connection (connection_in new place) × (is_vacant (stage_in new place) ≡ false)

-- each connection is ready for what the system told of it
abbrev pub Hears : List Told → Places → Places → Type 0
Hears told old new = (place : ℕ) (connection : Connection)
    → connection_in old place ≡ Some connection → is_vacant (stage_in old place) ≡ false
    → IsStill (marked_by told place connection) (connection_in new place)
