use Rattle.std.proofs.Common.{ℕ, ◌<◌}
use Rattle.tb_event_loop.specs.Places.{HasTurn}
use Rattle.tb_event_loop.proofs.places.Places.have_turns.Given as goal

-- none so far has a turn
abbrev pub invariant-loop-place : goal.invariant-loop-place
invariant-loop-place l = (place : ℕ) → place < l.place → ¬ HasTurn l.self place l.now
