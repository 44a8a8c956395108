-- The connections that come: which wait, which may be accepted, and how many are still to come.
use Rattle.std.specs.Prelude.{◌≡◌, ℕ, ◌+◌, ◌-◌, ◌^◌, Bool, true, false, not, ◌&&◌, ◌||◌, nat_le, nat_lt, if◌then◌else◌, Option, Some, None, is_none, is_some, List, [], ◌∷◌, min, position}
use Rattle.std.specs.List.{list_any}
use Rattle.std.specs.Option.{option_map}
use Rattle.std.specs.declared.io.ErrorKind.{ErrorKind}
use Rattle.std.specs.declared.io.ErrorKind.TheVariants.{WouldBlock}
use Rattle.tb_event_loop.specs.declared.arrivals.Arrivals.{Arrivals}
use Rattle.tb_event_loop.specs.declared.arrivals.TheConstants.{RETRY}
use Rattle.tb_event_loop.specs.Sockets.{Called, accepted, unaccepted, are_quiet}
use Rattle.tb_event_loop.specs.declared.places.Places.{Places}
use Rattle.tb_event_loop.specs.declared.sockets.Told.{Told}
use Rattle.tb_timeouts.specs.Stage.{is_vacant}

-- the first try to accept one tells whether one is there
abbrev pub listens : Option ℕ → Arrivals
listens still_to_come = record {
  still_to_come = still_to_come;
  is_ready = true;
  is_waiting = false;
  next_try = 0;
  has_told = false;
}

-- there may be one that is still to come
abbrev pub may_come : Arrivals → Bool
may_come arrivals = arrivals.is_ready && is_open arrivals.still_to_come
  where
    is_open : Option ℕ → Bool
    is_open None = true
    is_open (Some count) = nat_lt 0 count

abbrev pub may_accept : Arrivals → ℕ → Bool
may_accept arrivals now = may_come arrivals && nat_le arrivals.next_try now

-- one that came has no place, or can't be accepted yet
abbrev pub are_held_up : Arrivals → Bool
are_held_up arrivals = arrivals.is_waiting || may_come arrivals

-- one that waits can be put into a place, or where none waits one can be accepted
abbrev pub can_go_on : Arrivals → Places → ℕ → Bool
can_go_on arrivals places now =
    if arrivals.is_waiting then is_some (position is_vacant places.stages.items)
    else may_accept arrivals now

-- where one was accepted it is counted, and only then
abbrev pub CountsOne : Arrivals → Arrivals → Type 0
CountsOne old new = new.still_to_come
    ≡ (if new.is_waiting then option_map (λ count. count - 1) old.still_to_come
    else old.still_to_come)

-- where none was there the system tells when one is; after another failure there is a pause
abbrev pub accept_failed : ErrorKind → ℕ → Arrivals → Arrivals
accept_failed WouldBlock now arrivals = record arrivals { is_ready = false; has_told = false }
accept_failed _ now arrivals =
    record arrivals { next_try = min (now + RETRY) (2 ^ 64 - 1); has_told = true }

-- ---- what the sockets tell of the listener

abbrev pub is_would_block : ErrorKind → Bool
is_would_block WouldBlock = true
is_would_block kind = false

-- none was there to be accepted
abbrev pub finds_none : Called → Bool
finds_none (unaccepted kind) = is_would_block kind
finds_none call = false

-- Where one is there the system tells so. One may be there until none was found, and no shorter.
abbrev pub ready_after : Bool → List Called → Bool
ready_after ready [] = ready
ready_after ready (call ∷ calls) = ready_after (ready && not (finds_none call)) calls

pub record StaysReady {N : Type 0} (follows : List Called → N → N → Type 0) (before after : Bool) (old new : N) : Type 0 where
  pub calls : List Called
  pub made : follows calls old new
  pub quiet : are_quiet calls ≡ true
  pub is : after ≡ ready_after before calls

-- a connection came, or none could be accepted
abbrev pub is_try : Called → Bool
is_try accepted = true
is_try (unaccepted kind) = true
is_try call = false

-- first of all one is accepted, if it can be
pub record TriesToAccept {N : Type 0} (follows : List Called → N → N → Type 0) (old new : N) : Type 0 where
  pub first : Called
  pub is : is_try first ≡ true
  pub more : List Called
  pub made : follows (first ∷ more) old new

-- the system tells of the listener
abbrev pub tells_listener : List Told → Bool
tells_listener told = list_any (λ (one : Told). is_none one.place) told

abbrev pub told_of : List Told → Arrivals → Arrivals
told_of told arrivals =
    record arrivals { is_ready = arrivals.is_ready || tells_listener told }
