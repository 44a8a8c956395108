-- What each place holds of memory, and who may hold more.
use Rattle.std.specs.Prelude.{ℕ, ◌+◌, ◌-◌, ◌*◌, ◌^◌, ◌==◌, Bool, true, false, not, ◌&&◌, ◌||◌, nat_le, nat_lt, if◌then◌else◌, List, Option, Some, None, max, min}
use Rattle.std.specs.List.{fold, list_any}
use Rattle.tb_rooms.specs.declared.holding.Hold.{Hold}
use Rattle.tb_rooms.specs.declared.holding.Rooms.{Rooms}
use Rattle.tb_rooms.specs.declared.holding.TheConstants.{HELD_ALWAYS, STRANGER}
use Rattle.tb_rooms.specs.declared.holding.Whose.{Whose}
use Rattle.tb_rooms.specs.declared.holding.Whose.TheVariants.{All, Persons, Of}
use Rattle.tb_timeouts.specs.Stage.{begun_at, idle_since}
use Rattle.tb_timeouts.specs.declared.limits.TheConstants.{CONNECTIONS}
use Rattle.tb_timeouts.specs.declared.stage.Stage.{Stage}
use Rattle.tb_timeouts.specs.declared.stage.Stage.TheVariants.{Vacant}

-- a sum of 64 bits stays at its end
abbrev pub plus : ℕ → ℕ → ℕ
plus sum more = min (sum + more) (2 ^ 64 - 1)

-- Rule: messages and answers take up to 232 MiB of memory, besides one answer that is larger. Tried by rooms.sh.
abbrev pub most_held : Rooms → ℕ
most_held rooms =
    plus (plus (CONNECTIONS * HELD_ALWAYS) rooms.most_answers) (plus rooms.persons rooms.strangers)

abbrev pub has : Whose → Hold → Bool
has All hold = true
has Persons hold = not (hold.owner == STRANGER)
has (Of owner) hold = hold.owner == owner

-- a connection that has no message yet
abbrev pub fresh_hold : Stage → Hold
fresh_hold stage = record {
  owner = STRANGER;
  stage = stage;
  wanted = 0;
  room = 0;
  out = 0;
  round = 0;
  millis = 0;
  is_fresh = true;
}

abbrev pub vacant_hold : Hold
vacant_hold = fresh_hold Vacant

abbrev pub is_same : Option ℕ → Option ℕ → Bool
is_same (Some one) (Some other) = one == other
is_same _ _ = false

-- a message keeps its room until it is answered, and an answer counts in full until all of it is taken
abbrev pub after_turn : ℕ → Stage → ℕ → ℕ → Hold → Hold
after_turn owner stage wanted unsent hold = record hold {
  owner = owner;
  stage = stage;
  wanted = wanted;
  room = if wanted == 0 then 0 else hold.room;
  out = if unsent == 0 then 0 else max hold.out unsent;
  is_fresh = hold.is_fresh && is_same (idle_since hold.stage) (idle_since stage);
}

-- ---- messages

-- Rule: a message longer than 32 KiB is read once there is room for all of it. Tried by rooms.sh.
abbrev pub lacks_room : Rooms → Hold → Bool
lacks_room rooms hold = (hold.room == 0) && nat_lt rooms.allowance hold.wanted

abbrev pub room_if : Whose → Hold → ℕ
room_if whose hold = if has whose hold then hold.room else 0

abbrev pub room_in : Whose → List Hold → ℕ
room_in whose holds = fold (λ sum hold. plus sum (room_if whose hold)) 0 holds

abbrev pub begun_sooner : Option ℕ → Option ℕ → Bool
begun_sooner (Some one) (Some other) = nat_lt one other
begun_sooner _ _ = false

-- of the messages of one owner that wait for room, the one that was begun first is given it first
abbrev pub goes_before : Rooms → Hold → Hold → Bool
goes_before rooms hold one =
    lacks_room rooms one && (one.owner == hold.owner)
    && begun_sooner (begun_at one.stage) (begun_at hold.stage)

abbrev pub are_before : Rooms → Hold → List Hold → Bool
are_before rooms hold holds = list_any (goes_before rooms hold) holds

-- Rule: a person has room for 2 MiB of messages, all persons for 64 MiB, and all strangers for 8 MiB. Tried by rooms.sh.
abbrev pub fits : Rooms → Hold → List Hold → Bool
fits rooms hold holds =
    if hold.owner == STRANGER
    then nat_le (plus (room_in (Of STRANGER) holds) hold.wanted) rooms.strangers
    else nat_le (plus (room_in (Of hold.owner) holds) hold.wanted) rooms.person
    && nat_le (plus (room_in Persons holds) hold.wanted) rooms.persons

abbrev pub is_let_in : Rooms → Hold → List Hold → Bool
is_let_in rooms hold holds =
    lacks_room rooms hold && not (are_before rooms hold holds) && fits rooms hold holds

-- ---- answers

abbrev pub out_if : Whose → Hold → ℕ
out_if whose hold = if has whose hold then hold.out else 0

abbrev pub out_in : Whose → List Hold → ℕ
out_in whose holds = fold (λ sum hold. plus sum (out_if whose hold)) 0 holds

-- Rule: with 8 MiB of untaken answers a person waits, and above 64 MiB of all whoever has one. Tried by rooms.sh.
abbrev pub may_turn : Rooms → ℕ → List Hold → Bool
may_turn rooms owner holds =
    (out_in (Of owner) holds == 0)
    || (nat_lt (out_in (Of owner) holds) rooms.person_answers
    && nat_lt (out_in All holds) rooms.answers)

-- ---- turns

abbrev pub has_turned : ℕ → ℕ → Hold → Bool
has_turned owner round hold = (hold.owner == owner) && (hold.round == round)

abbrev pub turn_if : ℕ → ℕ → Hold → ℕ
turn_if owner round hold = if has_turned owner round hold then 1 else 0

abbrev pub turns_in : ℕ → ℕ → List Hold → ℕ
turns_in owner round holds = fold (λ count hold. plus count (turn_if owner round hold)) 0 holds

abbrev pub millis_if : ℕ → ℕ → Hold → ℕ
millis_if owner round hold = if has_turned owner round hold then hold.millis else 0

abbrev pub millis_in : ℕ → ℕ → List Hold → ℕ
millis_in owner round holds = fold (λ sum hold. plus sum (millis_if owner round hold)) 0 holds

-- Rule: a person has 8 turns in a round, or 5 ms of them. Tried by rooms.sh.
abbrev pub has_turns_left : Rooms → ℕ → ℕ → List Hold → Bool
has_turns_left rooms owner round holds =
    nat_lt (turns_in owner round holds) rooms.turns
    && nat_lt (millis_in owner round holds) rooms.millis
