-- What a loop did, from its beginning to its end.
use Rattle.std.specs.Prelude.{◌≡◌, ℕ, ◌+◌, ◌≤◌, Bool, List, Option, Some, None, Result, Ok, Err, IfSome}
use Rattle.tb_event_loop.specs.Deeds.{Deed, Did, done_in}
use Rattle.tb_event_loop.specs.Done.{Done, ends_in, opened, came, turned, went}
use Rattle.tb_event_loop.specs.declared.event_loop.EventLoop.{EventLoop}
use Rattle.tb_event_loop.specs.declared.service.SocketEvent.{SocketEvent}
use Rattle.tb_event_loop.specs.declared.service.SocketEvent.TheVariants.{Opened, Came, Turn, Went}

-- what was done, without where its bytes lie
abbrev pub done_of : SocketEvent → Done
done_of Opened = opened
done_of (Came piece) = came piece.now
done_of Turn = turned
done_of (Went count) = went count

-- how many connections have still to end before the loop does, if it does
abbrev pub still_to_end : EventLoop → Option ℕ
still_to_end event_loop = event_loop.still_to_end

-- where so many had still to end, and so many ended, the others still have to
abbrev pub Leaves : Option ℕ → ℕ → Option ℕ → Type 0
Leaves None ended now = now ≡ None
Leaves (Some before) ended now = (left : ℕ) × (now ≡ Some left) × (ended + left ≡ before)

-- Some things were done, one after the other, and the connections that ended among them have no longer to.
abbrev pub Goes : {S : Type 0} → (Bool → List Deed → S → S → Type 0) → Bool → Option ℕ
    → Option ℕ → S → S → Type 0
Goes acts stopped before now old new =
    (ended : ℕ) × Did acts stopped ended old new × Leaves before ended now

-- The same, and this is said of what was done.
pub record GoesBy {S : Type 0} (acts : Bool → List Deed → S → S → Type 0) (stopped : Bool) (kind : List Deed → Type 0) (before now : Option ℕ) (old new : S) : Type 0 where
  pub deeds : List Deed
  pub done : acts stopped deeds old new
  pub says : kind deeds
  pub left : Leaves before (ends_in (done_in deeds)) now

-- A loop that ends well had a limit, and exactly so many connections ended; none that has a limit ends more.
abbrev pub EndsAll : {T E : Type 0} → Result T E → Option ℕ → ℕ → Type 0
EndsAll (Ok x) limit ended = limit ≡ Some ended
EndsAll (Err e) limit ended = IfSome limit (λ most. ended ≤ most)
