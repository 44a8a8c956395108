-- The places of connections: who has a turn, who lets go of a place, and what a connection needs.
use Rattle.std.specs.Prelude.{◌≡◌, ◌⊎◌, ℕ, ◌<◌, ◌≤◌, Bool, true, false, not, ◌&&◌, ◌||◌, nat_le, if◌then◌else◌, IsTrue, OnSome, List, [], ◌∷◌, Option, Some, None, slice_get, slice_set, unwrap_or, ◌==◌, ◌+◌, ◌-◌, ◌^◌, max, min, replicate}
use Rattle.std.specs.Borrow.{LendsSo, MutBor, Fml}
use Rattle.std.specs.Option.{option_map}
use Rattle.tb_event_loop.specs.Deeds.{OwesBytes}
use Rattle.tb_event_loop.specs.Connection.{fresh, leaving, may_go, needs_bytes, short_of_bytes}
use Rattle.tb_event_loop.specs.Guesses.{is_due, looked_at}
use Rattle.tb_event_loop.specs.contracts.connection.Connection.{the_row as connection_row}
use Rattle.tb_event_loop.specs.contracts.places.Places.{the_row as places_row}
use Rattle.tb_event_loop.specs.declared.connection.Connection.{Connection}
use Rattle.tb_event_loop.specs.declared.places.Places.{Places}
use Rattle.tb_rooms.specs.Holding.{fresh_hold, lacks_room, may_turn, vacant_hold}
use Rattle.tb_rooms.specs.Rates.{fresh as fresh_rates}
use Rattle.tb_rooms.specs.declared.bucket.Rate.{Rate}
use Rattle.tb_rooms.specs.declared.holding.Hold.{Hold}
use Rattle.tb_rooms.specs.declared.holding.Rooms.{Rooms}
use Rattle.tb_rooms.specs.declared.holding.TheConstants.{ROOMS}
use Rattle.tb_rooms.specs.declared.rates.Rates.{Rates}
use Rattle.tb_timeouts.specs.Stage.{is_over, is_vacant, next_stage, takes_bytes}
use Rattle.tb_timeouts.specs.declared.limits.Limits.{Limits}
use Rattle.tb_timeouts.specs.declared.limits.TheConstants.{CONNECTIONS}
use Rattle.tb_timeouts.specs.declared.stage.Need.{Need}
use Rattle.tb_timeouts.specs.declared.stage.Need.TheVariants.{Message, RestOfHead, RestOfBody, Taker, End}
use Rattle.tb_timeouts.specs.declared.stage.Stage.{Stage}
use Rattle.tb_timeouts.specs.declared.stage.Stage.TheVariants.{Vacant, Idle, Waiting, Answering, Closing}

-- what the connection in a place does; one that there is not is vacant
abbrev pub stage_in : Places → ℕ → Stage
stage_in places place = unwrap_or (slice_get places.stages.items place) Vacant

-- the connection in a place, if there is one
abbrev pub connection_in : Places → ℕ → Option Connection
connection_in places place = unwrap_or (slice_get places.connections.items place) None

-- what a place holds; one that there is not holds nothing
abbrev pub hold_in : Places → ℕ → Hold
hold_in places place = unwrap_or (slice_get places.holds.items place) vacant_hold

-- the bytes that come to this place are read: they are of a message, and it doesn't wait for room
abbrev pub is_read : Places → ℕ → Bool
is_read places place =
    takes_bytes (stage_in places place) && not (lacks_room places.rooms (hold_in places place))

-- What is held for a connection may be turned: it wasn't looked at yet, or its time has come and there is room for its answer.
abbrev pub may_turn_of : Places → Connection → ℕ → Bool
may_turn_of places connection now =
    not connection.has_asked
    || (nat_le connection.due now && may_turn places.rooms connection.owner places.holds.items)

-- By its stage a connection writes, throws away, answers or reads, where it can.
abbrev pub can_act : Places → ℕ → ℕ → Connection → Stage → Bool
can_act places place now connection Vacant = false
can_act places place now connection (Answering since taken) = connection.can_write
can_act places place now connection (Closing since reads) = connection.can_read
can_act places place now connection _ =
    (connection.may_answer && may_turn_of places connection now)
    || (needs_bytes connection && is_read places place)

-- A connection that leaves has a turn, and so has one that can do something.
abbrev pub has_turn_as : Places → ℕ → ℕ → Stage → Option Connection → Bool
has_turn_as places place now stage None = false
has_turn_as places place now stage (Some connection) =
    connection.is_gone || can_act places place now connection stage

abbrev pub has_turn : Places → ℕ → ℕ → Bool
has_turn places place now =
    has_turn_as places place now (stage_in places place) (connection_in places place)

abbrev pub HasTurn : Places → ℕ → ℕ → Type 0
HasTurn places place now = IsTrue (has_turn places place now)

abbrev pub HaveTurns : Places → ℕ → Type 0
HaveTurns places now = (place : ℕ) × (place < places.end) × HasTurn places place now

-- what is held for a connection may be whole, and waits until this moment
abbrev pub waits_until : ℕ → Option Connection → Option ℕ
waits_until now None = None
waits_until now (Some connection) =
    if connection.may_answer && not (may_go now connection) then Some connection.due else None

-- It is the longest time, at most so long, at whose end no message below a place is due for longer.
pub record IsUntilDue (places : Places) (end now most wait : ℕ) : Type 0 where
  pub at_most : wait ≤ most
  pub before_each : (place due : ℕ) → place < end
      → waits_until now (connection_in places place) ≡ Some due
      → wait ≤ due - now
  pub no_less : (wait ≡ most)
      ⊎ ((place : ℕ) × (due : ℕ) × (waits_until now (connection_in places place) ≡ Some due)
      × (wait ≡ due - now))

-- there is a connection, and it leaves
abbrev pub is_leaving : Option Connection → Bool
is_leaving None = false
is_leaving (Some connection) = connection.is_gone

-- the stage of a place is this now, and nothing else is another
abbrev pub SetsStage : Places → Places → ℕ → Stage → Type 0
SetsStage old new place stage =
    (new.stages.items ≡ slice_set old.stages.items place stage)
    × (new ≡ record old { stages = new.stages })

-- what a place holds is this now, and nothing else is another
abbrev pub SetsHold : Places → Places → ℕ → Hold → Type 0
SetsHold old new place hold =
    (new.holds.items ≡ slice_set old.holds.items place hold)
    × (new ≡ record old { holds = new.holds })

-- the connection of a place is another now, and nothing else is
abbrev pub Changes : (Connection → Connection) → Places → Places → ℕ → Type 0
Changes change old new place =
    (new.connections.items
    ≡ slice_set old.connections.items place (option_map change (connection_in old place)))
    × (new ≡ record old { connections = new.connections })

-- what is held for a connection may be whole
abbrev pub may_answer_at : Option Connection → Bool
may_answer_at None = false
may_answer_at (Some connection) = connection.may_answer

-- there is a connection, and its socket takes bytes
abbrev pub can_write_at : Option Connection → Bool
can_write_at None = false
can_write_at (Some connection) = connection.can_write

-- a connection needs bytes, and they are read
abbrev pub awaits : Option Connection → Bool → Bool
awaits None is_read = false
awaits (Some connection) is_read = needs_bytes connection && is_read

abbrev pub NeedsBytes : Places → ℕ → Type 0
NeedsBytes places place = IsTrue (awaits (connection_in places place) (is_read places place))

-- An answer is taken first; then it ends, or the next message comes.
abbrev pub need_by : List ℕ → Bool → List ℕ → Bool → Need
need_by (byte ∷ owed) closes held has_head = Taker
need_by [] true held has_head = End
need_by [] false [] has_head = Message
need_by [] false (byte ∷ held) true = RestOfBody
need_by [] false (byte ∷ held) false = RestOfHead

-- what it needs, where the service says whether a head is whole
abbrev pub IsNeed : List ℕ → Bool → List ℕ → Need → Type 0
IsNeed owed closes held need = (has_head : Bool) × (need ≡ need_by owed closes held has_head)

-- a place is done with: no connection is in it
abbrev pub Vacates : Places → Places → ℕ → Type 0
Vacates old new place =
    (new.connections.items ≡ slice_set old.connections.items place None)
    × (new.stages.items ≡ slice_set old.stages.items place Vacant)
    × (new.holds.items ≡ slice_set old.holds.items place vacant_hold)
    × (new ≡ record old {
      connections = new.connections;
      stages = new.stages;
      holds = new.holds;
      end = new.end;
    })

-- the stage that what it needs leads to
abbrev pub Enters : Places → Places → ℕ → ℕ → List ℕ → Bool → List ℕ → Type 0
Enters old new place now owed closes held =
    (need : Need) × IsNeed owed closes held need
    × SetsStage old new place (next_stage now need (stage_in old place))

-- A place is taken by one that may be ready and whose first message is awaited from now on. No end is before it.
abbrev pub Seats : Places → Places → ℕ → ℕ → Type 0
Seats old new place now =
    (new.connections.items ≡ slice_set old.connections.items place (Some fresh))
    × (new.stages.items ≡ slice_set old.stages.items place (Idle now))
    × (new.holds.items ≡ slice_set old.holds.items place (fresh_hold (Idle now)))
    × (new ≡ record old {
      connections = new.connections;
      stages = new.stages;
      holds = new.holds;
      end = max old.end (min (place + 1) (2 ^ 64 - 1));
    })

-- the connection of a place leaves, where one is to
abbrev pub LetsGoOne : Places → Places → Option ℕ → Type 0
LetsGoOne old new None = new ≡ old
LetsGoOne old new (Some place) = Changes leaving old new place

-- all places are vacant, and nothing is held
abbrev pub IsEmpty : Limits → Rate → Places → Type 0
IsEmpty limits rate places =
    (places.connections.items ≡ replicate CONNECTIONS None)
    × (places.stages.items ≡ replicate CONNECTIONS Vacant)
    × (places.holds.items ≡ replicate CONNECTIONS vacant_hold)
    × (places.limits ≡ limits) × (places.end ≡ 0) × (places.rooms ≡ ROOMS)
    × (places.rates ≡ fresh_rates rate)

-- The end comes nearer only over places that no connection is in.
abbrev pub IsEndWithin : ℕ → Places → Type 0
IsEndWithin before places =
    (places.end ≤ before)
    × ((place : ℕ) → places.end ≤ place → place < before
    → is_vacant (stage_in places place) ≡ true)

-- One that is closing already leaves, and another begins to close.
abbrev pub EndsAs : Stage → Places → Places → ℕ → ℕ → Type 0
EndsAs (Closing since reads) old new place now = Changes leaving old new place
EndsAs stage old new place now = SetsStage old new place (next_stage now End stage)

abbrev pub Ends : Places → Places → ℕ → ℕ → Type 0
Ends old new place now = EndsAs (stage_in old place) old new place now

-- it has stayed too long
abbrev pub is_over_at : Places → ℕ → ℕ → Bool
is_over_at places place now = is_over places.limits now (stage_in places place)

-- A connection that holds nothing has no message to be answered.
abbrev pub LacksAll : List ℕ → Places → Places → ℕ → Type 0
LacksAll [] old new place = Changes short_of_bytes old new place
LacksAll (byte ∷ held) old new place = new ≡ old

abbrev pub GoesOn : Places → Places → ℕ → ℕ → List ℕ → Bool → List ℕ → Type 0
GoesOn old new place now owed closes held =
    (between : Places) × LacksAll held old between place
    × Enters between new place now owed closes held

abbrev pub is_waiting : Stage → Bool
is_waiting (Waiting since) = true
is_waiting stage = false

abbrev pub SettlesTo : Places → Places → ℕ → ℕ → List ℕ → Bool → List ℕ → Type 0
SettlesTo old new place now (byte ∷ owed) closes held = new ≡ old
SettlesTo old new place now [] true held =
    SetsStage old new place (next_stage now End (stage_in old place))
SettlesTo old new place now [] false held = GoesOn old new place now [] false held

abbrev pub SettlesIf : Bool → Places → Places → ℕ → ℕ → List ℕ → Bool → List ℕ → Type 0
SettlesIf true old new place now owed closes held = new ≡ old
SettlesIf false old new place now owed closes held = SettlesTo old new place now owed closes held

-- Behind its turn a connection still waits to be answered or for its answer to go, closes, or goes on.
abbrev pub Settles : Places → Places → ℕ → ℕ → List ℕ → Bool → List ℕ → Type 0
Settles old new place now owed closes held =
    SettlesIf (is_waiting (stage_in old place)) old new place now owed closes held

-- its message is due, where these bytes are held for it
abbrev pub is_due_at : (List ℕ → Bool) → Rates → List ℕ → ℕ → Option Connection → Bool
is_due_at files rates held now None = false
is_due_at files rates held now (Some connection) = is_due files rates held now connection

-- beside the answers that aren't taken there is room for one more; a message that wasn't looked at yet may be read on
abbrev pub has_room_at : Rooms → List Hold → Option Connection → Bool
has_room_at rooms holds None = false
has_room_at rooms holds (Some connection) =
    not connection.has_asked || may_turn rooms connection.owner holds

-- its message is due, and there is room for its answer, as far as it is looked at now
abbrev pub is_turned_at : (List ℕ → Bool) → Rates → Rooms → List Hold → List ℕ → ℕ
    → Option Connection → Bool
is_turned_at files rates rooms holds held now found =
    is_due_at files rates held now found
    && has_room_at rooms holds (option_map (looked_at files rates held now) found)

abbrev pub is_turned_in : (List ℕ → Bool) → Places → ℕ → ℕ → List ℕ → Bool
is_turned_in files places place now held =
    is_turned_at files places.rates places.rooms places.holds.items held now
    (connection_in places place)

-- What is held for a connection may be a message that is due, and no answer is in its way: it is answered in its turn.
abbrev pub IsAnswered : (List ℕ → Bool) → Places → ℕ → ℕ → List ℕ → Type 0
IsAnswered files places place now held =
    (is_leaving (connection_in places place) ≡ false)
    × IsTrue (takes_bytes (stage_in places place))
    × IsTrue (may_answer_at (connection_in places place))
    × IsTrue (is_turned_in files places place now held)

-- an answer is on its way
abbrev pub is_answering : Stage → Bool
is_answering (Answering since taken) = true
is_answering stage = false

-- Its socket takes bytes of the answer that is on its way.
abbrev pub IsWritten : Places → ℕ → List ℕ → Type 0
IsWritten places place owed =
    (is_leaving (connection_in places place) ≡ false)
    × IsTrue (is_answering (stage_in places place))
    × (can_write_at (connection_in places place) ≡ true)
    × OwesBytes owed

-- It needs bytes, and they are read.
abbrev pub IsHeard : Places → ℕ → Type 0
IsHeard places place =
    (is_leaving (connection_in places place) ≡ false) × NeedsBytes places place

-- Other places have the connections and the stages that they had, and hold what they held. But for the end and for how much persons
-- and boards may write, what the places share stays.
pub record Spares (place : ℕ) (old new : Places) : Type 0 where
  pub connections : (c : ℕ) → (place == c) ≡ false
      → connection_in new c ≡ connection_in old c
  pub stages : (c : ℕ) → (place == c) ≡ false → stage_in new c ≡ stage_in old c
  pub holds : (c : ℕ) → (place == c) ≡ false → hold_in new c ≡ hold_in old c
  pub first : new.first ≡ old.first
  pub cut : new.cut ≡ old.cut
  pub round : new.round ≡ old.round
  pub rooms : new.rooms ≡ old.rooms
  pub limits : new.limits ≡ old.limits

-- ---- the connection of a place, lent to be changed

-- it is the connection of the place at last, and nothing else is another
abbrev pub SeatsAgain : Places → ℕ → Places → Connection → Type 0
SeatsAgain old place new connection =
    (new.connections.items ≡ slice_set old.connections.items place (Some connection))
    × (new ≡ record old { connections = new.connections })

abbrev pub Stays : Places → Places → Type 0
Stays old new =
    (new.connections.items ≡ old.connections.items)
    × (new ≡ record old { connections = new.connections })

abbrev pub LendsConnection : MutBor Places → ℕ → Option (MutBor Connection) → Fml
LendsConnection places place lent =
    LendsSo places_row connection_row places lent
    (λ new connection. OnSome lent (SeatsAgain places.now place new connection))
    (Stays places.now)
