-- What the connections share.
use Rattle.std.specs.Prelude.{◌≡◌, ℕ, zero, suc, ◌+◌, ◌-◌, Bool, true, false, not, ◌&&◌, ◌||◌, nat_lt, if◌then◌else◌, List, take, Option, Some, None, slice_set, unwrap_or, min}
use Rattle.std.specs.List.{list_any}
use Rattle.tb_event_loop.specs.Places.{LetsGoOne, SetsHold, connection_in, has_turn, hold_in}
use Rattle.tb_event_loop.specs.declared.connection.Connection.{Connection}
use Rattle.tb_event_loop.specs.declared.places.Places.{Places}
use Rattle.tb_rooms.specs.Holding.{has_turns_left, is_let_in, plus}
use Rattle.tb_rooms.specs.Yielding.{gives_answer_way, gives_room_way}
use Rattle.tb_rooms.specs.declared.holding.Hold.{Hold}
use Rattle.tb_rooms.specs.declared.holding.TheConstants.{STRANGER}

abbrev pub owner_at : Option Connection → ℕ
owner_at None = STRANGER
owner_at (Some connection) = connection.owner

-- the whole of an answer counts, before any of it is taken
abbrev pub counted_out : ℕ → Hold → Hold
counted_out bytes hold = record hold { out = bytes }

abbrev pub LetsInIf : Bool → Places → Places → ℕ → Type 0
LetsInIf true old new place =
    let hold : Hold = hold_in old place in
    SetsHold old new place (record hold { room = hold.wanted })
LetsInIf false old new place = new ≡ old

-- where it is the turn of a message, and there is room for all of it, it is given that room
abbrev pub LetsIn : Places → Places → ℕ → Type 0
LetsIn old new place =
    LetsInIf (is_let_in old.rooms (hold_in old place) old.holds.items) old new place

-- ---- what a place holds behind its turn

-- it has left an answer untaken, or its message needs more than a message may have without room
abbrev pub is_tight_by : ℕ → Hold → Bool
is_tight_by allowance hold = nat_lt 0 hold.out || nat_lt allowance hold.wanted

abbrev pub Notes : Places → Places → ℕ → Hold → Type 0
Notes old new place hold =
    (new.holds.items ≡ slice_set old.holds.items place hold)
    × (new.is_tight ≡ (old.is_tight || is_tight_by old.rooms.allowance hold))

-- ---- room for those who wait

-- the places below this one were asked in their order, each after those before it were given room
abbrev pub LetsInBelow : ℕ → Places → Places → Type 0
LetsInBelow zero old new = new ≡ old
LetsInBelow (suc place) old new =
    (between : Places) × LetsInBelow place old between × LetsIn between new place

-- who keeps room from others for too long leaves: one whose message has it, and one whose answer does
abbrev pub MakesWay : Places → Places → ℕ → Type 0
MakesWay old new now =
    (between : Places)
    × LetsGoOne old between (gives_room_way old.rooms old.limits now old.holds.items)
    × LetsGoOne between new (gives_answer_way between.rooms now between.holds.items)

abbrev pub is_tight_in : List Hold → Bool
is_tight_in holds = list_any (is_tight_by 0) holds

abbrev pub SharesIf : Bool → Places → Places → ℕ → Type 0
SharesIf false old new now = new ≡ old
SharesIf true old new now =
    (let_in : Places) × (left : Places)
    × LetsInBelow old.end old let_in × MakesWay let_in left now
    × (new ≡ record left { is_tight = is_tight_in left.holds.items })

-- where one waits for room, or has left an answer untaken
abbrev pub Shares : Places → Places → ℕ → Type 0
Shares old new now = SharesIf old.is_tight old new now

-- ---- the turns of a round

-- where the last places were left since the round before, this one begins at the first
abbrev pub with_round : Places → Places
with_round places = record places {
  round = plus places.round 1;
  first = min places.first places.end;
  cut = None;
}

abbrev pub first_after : Option ℕ → ℕ → ℕ
first_after None end = 0
first_after (Some place) end = if nat_lt place end then place else 0

-- the next round begins at the place at which this one was cut
abbrev pub with_first : Places → Places
with_first places = record places { first = first_after places.cut places.end }

-- the places from the first on, and then those before it
abbrev pub place_from : ℕ → ℕ → ℕ → ℕ
place_from first step end =
    if nat_lt step (end - first) then first + step else step - (end - first)

abbrev pub taken_in : Places → List Hold
taken_in places = take places.end places.holds.items

-- there are more places than a person has turns, and the owner of this one, which has a turn, had enough of them
abbrev pub is_put_back : Places → ℕ → ℕ → Bool
is_put_back places place now =
    nat_lt places.rooms.turns places.end && has_turn places place now
    && not (has_turns_left places.rooms (owner_at (connection_in places place)) places.round
    (taken_in places))

-- the first place that is put back is where the round is cut
abbrev pub with_cut : Places → ℕ → Places
with_cut places place = record places { cut = Some (unwrap_or places.cut place) }

-- it had a turn in this round, which took so long
abbrev pub turned_for : ℕ → ℕ → Hold → Hold
turned_for round millis hold = record hold { round = round; millis = millis }
