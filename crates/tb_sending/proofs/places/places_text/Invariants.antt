use Rattle.std.proofs.Common.{drop}
use Rattle.std.specs.String.{string_bytes}
use Rattle.tb_sending.specs.Places.{places_text}
use Rattle.tb_sending.proofs.Told.{IsOnTheWay}
use Rattle.tb_sending.proofs.places.places_text.Given as goal

abbrev pub invariant-loop-place : goal.invariant-loop-place
invariant-loop-place l =
    IsOnTheWay (places_text l.tasks l.places) (string_bytes l.text) (places_text l.tasks (drop l.place-index l.places))
