use Rattle.std.proofs.Common.{◌≡◌, flat_map, take}
use Rattle.tb_rows.specs.Steps.{put_place}
use Rattle.tb_rows.proofs.concerned.put_places.Given as goal

abbrev pub invariant-loop-change : goal.invariant-loop-change
invariant-loop-change l = l.places ≡ flat_map (put_place l.board) (take l.change-index l.changes)
