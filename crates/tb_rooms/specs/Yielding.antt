-- Which connection ends for others.
use Rattle.std.specs.Prelude.{ℕ, ◌-◌, ◌==◌, Bool, true, false, not, ◌&&◌, ◌||◌, nat_le, nat_lt, if◌then◌else◌, List, Option, Some, None, is_some, max, min, position}
use Rattle.std.specs.List.{fold, list_any}
use Rattle.tb_rooms.specs.Holding.{has, lacks_room, out_in, plus}
use Rattle.tb_rooms.specs.declared.holding.Hold.{Hold}
use Rattle.tb_rooms.specs.declared.holding.Rooms.{Rooms}
use Rattle.tb_rooms.specs.declared.holding.TheConstants.{STRANGER}
use Rattle.tb_rooms.specs.declared.holding.Whose.{Whose}
use Rattle.tb_rooms.specs.declared.holding.Whose.TheVariants.{All, Of}
use Rattle.tb_rooms.specs.declared.yielding.Doing.{Doing}
use Rattle.tb_rooms.specs.declared.yielding.Doing.TheVariants.{Coming, Idling, Queueing, Sending, Filling, Taking, TakingMuch}
use Rattle.tb_rooms.specs.declared.yielding.TheConstants.{ALWAYS}
use Rattle.tb_timeouts.specs.Stage.{begun_at, idle_since, taken_at, waiting_since}
use Rattle.tb_timeouts.specs.declared.limits.Limits.{Limits}

-- ---- who does something longest

-- since when a place does this, if it does
abbrev pub since : Doing → Rooms → Hold → Option ℕ
since Coming rooms hold = if hold.is_fresh then idle_since hold.stage else None
since Idling rooms hold = if hold.is_fresh then None else idle_since hold.stage
since Queueing rooms hold =
    if lacks_room rooms hold then begun_at hold.stage else waiting_since hold.stage
since Sending rooms hold = begun_at hold.stage
since Filling rooms hold = if hold.room == 0 then None else begun_at hold.stage
since Taking rooms hold = taken_at hold.stage
since TakingMuch rooms hold =
    if nat_lt hold.out rooms.person_answers then None else taken_at hold.stage

abbrev pub since_of : Doing → Whose → Rooms → Hold → Option ℕ
since_of doing whose rooms hold = if has whose hold then since doing rooms hold else None

abbrev pub lesser : Option ℕ → Option ℕ → Option ℕ
lesser None other = other
lesser (Some one) None = Some one
lesser (Some one) (Some other) = Some (min one other)

abbrev pub least_since : Doing → Whose → Rooms → List Hold → Option ℕ
least_since doing whose rooms holds =
    fold (λ least hold. lesser least (since_of doing whose rooms hold)) None holds

abbrev pub is_at : ℕ → Option ℕ → Bool
is_at moment None = false
is_at moment (Some since) = since == moment

abbrev pub is_since : Doing → Whose → Rooms → ℕ → Hold → Bool
is_since doing whose rooms moment hold = is_at moment (since_of doing whose rooms hold)

abbrev pub longest_at : Doing → Whose → Rooms → ℕ → List Hold → Option ℕ → Option ℕ
longest_at doing whose rooms before holds None = None
longest_at doing whose rooms before holds (Some moment) =
    if nat_lt moment before then position (is_since doing whose rooms moment) holds else None

-- the first of those that do this longest, if that is since before a moment
abbrev pub longest : Doing → Whose → Rooms → ℕ → List Hold → Option ℕ
longest doing whose rooms before holds =
    longest_at doing whose rooms before holds (least_since doing whose rooms holds)

abbrev pub either : Option ℕ → Option ℕ → Option ℕ
either None other = other
either (Some place) other = Some place

-- ---- a place for one that comes

abbrev pub place_if : ℕ → Hold → ℕ
place_if owner hold = if hold.owner == owner then 1 else 0

abbrev pub places_in : ℕ → List Hold → ℕ
places_in owner holds = fold (λ count hold. plus count (place_if owner hold)) 0 holds

abbrev pub more_places : List Hold → ℕ → ℕ → ℕ
more_places holds most owner =
    if not (owner == most) && nat_lt (places_in most holds) (places_in owner holds) then owner
    else most

abbrev pub most_places : List Hold → ℕ
most_places holds = fold (λ most hold. more_places holds most hold.owner) STRANGER holds

-- Rule: whoever has the most connections loses one first, where all 512 places are taken. Tried by rooms.sh.
abbrev pub crowd_in : Rooms → List Hold → Whose
crowd_in rooms holds =
    if nat_lt rooms.places (places_in (most_places holds) holds) then Of (most_places holds)
    else All

-- Rule: of 512 connections the longest idle one is closed first. Tried by crowd.sh.
-- Rule: a new connection has a second to begin its first message, before it is closed for others. Tried by crowd.sh.
abbrev pub gives_way : Rooms → Limits → ℕ → List Hold → Option ℕ
gives_way rooms limits now holds =
    let whose = crowd_in rooms holds in
    either (either (longest Coming whose rooms (now - rooms.silent) holds)
    (either (longest Idling whose rooms ALWAYS holds)
    (longest Queueing whose rooms ALWAYS holds)))
    (either (longest Sending whose rooms (now - limits.spared) holds)
    (longest Taking whose rooms (now - rooms.spared) holds))

-- ---- room for the message of a stranger

abbrev pub is_stranger_without_room : Rooms → Hold → Bool
is_stranger_without_room rooms hold = (hold.owner == STRANGER) && lacks_room rooms hold

abbrev pub do_strangers_wait : Rooms → List Hold → Bool
do_strangers_wait rooms holds = list_any (is_stranger_without_room rooms) holds

-- Rule: a stranger whose message has room for 5 s is closed for one that waits. Tried by rooms.sh.
abbrev pub gives_room_way : Rooms → Limits → ℕ → List Hold → Option ℕ
gives_room_way rooms limits now holds =
    if do_strangers_wait rooms holds
    then longest Filling (Of STRANGER) rooms (now - limits.spared) holds
    else None

-- ---- room for answers

abbrev pub is_earlier : Option ℕ → ℕ → Bool
is_earlier None before = false
is_earlier (Some moment) before = nat_lt moment before

abbrev pub waits_to_answer : ℕ → Hold → Bool
waits_to_answer owner hold = (hold.owner == owner) && is_some (waiting_since hold.stage)

abbrev pub does_one_wait : ℕ → List Hold → Bool
does_one_wait owner holds = list_any (waits_to_answer owner) holds

-- there are too many of all, or of an owner who waits
abbrev pub is_needed : Rooms → ℕ → List Hold → Bool
is_needed rooms owner holds =
    nat_le rooms.answers (out_in All holds)
    || (nat_le rooms.person_answers (out_in (Of owner) holds) && does_one_wait owner holds)

abbrev pub in_the_way : List Hold → Rooms → ℕ → Hold → ℕ
in_the_way holds rooms taken hold =
    if is_earlier (taken_at hold.stage) taken && is_needed rooms hold.owner holds then hold.out
    else 0

abbrev pub most_in_the_way : Rooms → ℕ → List Hold → ℕ
most_in_the_way rooms taken holds =
    fold (λ most hold. max most (in_the_way holds rooms taken hold)) 0 holds

abbrev pub is_in_the_way : List Hold → Rooms → ℕ → ℕ → Hold → Bool
is_in_the_way holds rooms taken bytes hold = in_the_way holds rooms taken hold == bytes

-- Rule: an answer of which nothing was taken for a second ends where others need its room. Tried by rooms.sh.
abbrev pub largest_in_the_way : Rooms → ℕ → List Hold → Option ℕ
largest_in_the_way rooms taken holds =
    if most_in_the_way rooms taken holds == 0 then None
    else position (is_in_the_way holds rooms taken (most_in_the_way rooms taken holds)) holds

abbrev pub large_if : Rooms → Hold → ℕ
large_if rooms hold = if nat_le rooms.person_answers hold.out then 1 else 0

abbrev pub larges_in : Rooms → List Hold → ℕ
larges_in rooms holds = fold (λ count hold. plus count (large_if rooms hold)) 0 holds

-- Rule: above 128 MiB of answers the large one that was taken least recently ends, until one is left. Tried by rooms.sh.
abbrev pub gives_answer_way : Rooms → ℕ → List Hold → Option ℕ
gives_answer_way rooms now holds =
    if nat_lt rooms.most_answers (out_in All holds) && nat_lt 1 (larges_in rooms holds)
    then longest TakingMuch All rooms ALWAYS holds
    else largest_in_the_way rooms (now - rooms.spared) holds
