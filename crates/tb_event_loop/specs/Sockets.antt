-- What is asked of the sockets, and what comes of it.
use Rattle.std.specs.Prelude.{◌≡◌, ℕ, Bool, true, false, ◌&&◌, List, [], ◌∷◌}
use Rattle.std.specs.declared.io.ErrorKind.{ErrorKind}
use Rattle.tb_event_loop.specs.declared.sockets.Told.{Told}

-- one call of the sockets, and what came of it
pub data Called : Type 0 where
  -- it waited so many milliseconds at most, and was told this
  waited : ℕ → List Told → Called
  -- it wasn't told
  deaf : Called
  -- a connection came, and is kept aside
  accepted : Called
  unaccepted : ErrorKind → Called
  -- the one that was kept aside is in this place; it will be told of, or not
  seated : ℕ → Bool → Called
  -- these bytes came; none where no more do
  read : ℕ → List ℕ → Called
  unread : ℕ → ErrorKind → Called
  -- so many bytes came, and were thrown away
  dropped : ℕ → ℕ → Called
  -- these bytes were taken
  wrote : ℕ → List ℕ → Called
  unwritten : ℕ → ErrorKind → Called
  -- nothing more is sent to it
  shut : ℕ → Called
  -- it was let go of
  closed : ℕ → Called

-- it has nothing for a service: no bytes came or went, and no connection ended
abbrev pub is_quiet : Called → Bool
is_quiet (read place bytes) = false
is_quiet (wrote place bytes) = false
is_quiet (closed place) = false
is_quiet call = true

abbrev pub are_quiet : List Called → Bool
are_quiet [] = true
are_quiet (call ∷ calls) = is_quiet call && are_quiet calls

-- Sockets come of others by calls that have nothing for a service.
pub record Quietly {N : Type 0} (follows : List Called → N → N → Type 0) (old new : N) : Type 0 where
  pub calls : List Called
  pub made : follows calls old new
  pub quiet : are_quiet calls ≡ true
