use Rattle.std.proofs.Common.{◌≡◌, map, take}
use Rattle.tb_rows.specs.AsStored.{masks_of}
use Rattle.tb_rows.specs.Rows.{mask_cell}
use Rattle.tb_rows.proofs.compared_masks.have_masks.Given as goal

-- the same masks so far
abbrev pub invariant-loop-place : goal.invariant-loop-place
invariant-loop-place l = masks_of (take l.place l.rows) ≡ map (mask_cell l.board) (take l.place l.board.tasks)
