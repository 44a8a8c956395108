use Rattle.std.proofs.Common.{◌≡◌, take}
use Rattle.tb_rows.specs.Rows.{rows_from, link_rows}
use Rattle.tb_rows.proofs.compared_links.board_links.Given as goal

abbrev pub invariant-loop-place : goal.invariant-loop-place
invariant-loop-place l = l.links ≡ rows_from (link_rows l.board) 1 (take l.place l.board.tasks)
