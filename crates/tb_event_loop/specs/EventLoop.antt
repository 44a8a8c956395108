-- When the loop has something to do at once.
use Rattle.std.specs.Prelude.{◌≡◌, ◌⊎◌, ℕ, Option, if◌then◌else◌, IsTrue, take}
use Rattle.tb_event_loop.specs.Arrivals.{are_held_up, can_go_on, listens}
use Rattle.tb_event_loop.specs.Places.{HaveTurns, IsEmpty, IsUntilDue}
use Rattle.tb_event_loop.specs.declared.arrivals.TheConstants.{RETRY}
use Rattle.tb_event_loop.specs.declared.event_loop.EventLoop.{EventLoop}
use Rattle.tb_event_loop.specs.declared.event_loop.TheConstants.{LONGEST_WAIT}
use Rattle.tb_rooms.specs.declared.bucket.Rate.{Rate}
use Rattle.tb_timeouts.specs.Deciding.{IsLongestWait}
use Rattle.tb_timeouts.specs.declared.limits.Limits.{Limits}

-- Nobody came yet, and so many may come; they are to keep these limits.
pub record IsNew (connections : Option ℕ) (limits : Limits) (rate : Rate) (event_loop : EventLoop) : Type 0 where
  pub arrivals : event_loop.arrivals ≡ listens connections
  pub places : IsEmpty limits rate event_loop.places
  pub still_to_end : event_loop.still_to_end ≡ connections

-- a connection has a turn, or one that came can go on
abbrev pub IsBusy : EventLoop → Type 0
IsBusy event_loop =
    HaveTurns event_loop.places event_loop.now
    ⊎ IsTrue (can_go_on event_loop.arrivals event_loop.places event_loop.now)

-- So long it waits for sockets: not at all where it has something to do, and else until the first time is over or the first message due.
pub record IsWaitOf (event_loop : EventLoop) (millis : ℕ) : Type 0 where
  pub busy : IsBusy event_loop → millis ≡ 0
  pub idle : ¬ IsBusy event_loop → (most : ℕ)
      × IsUntilDue event_loop.places event_loop.places.end event_loop.now
      (if are_held_up event_loop.arrivals then RETRY else LONGEST_WAIT) most
      × IsLongestWait event_loop.places.limits event_loop.now most
      (take event_loop.places.end event_loop.places.stages.items) millis
