-- What an import of tasks makes of a board that is awake.
use Rattle.std.specs.Prelude.{ℕ, ◌-◌, ◌++◌, not, List, length, count_by, sum_by}
use Rattle.tb_task.specs.declared.incoming.Incoming.{Incoming}
use Rattle.tb_board.specs.declared.board.Board.{Board}
use Rattle.tb_import.specs.declared.imported.ImportCounts.{ImportCounts}
use Rattle.tb_import.specs.Entering.{mask_places, orphans, with_all}
use Rattle.tb_import.specs.News.{is_there, new_tasks}

-- the board with the places of the new templates' masks, all gone
abbrev pub with_masks : Board → List Incoming → Board
with_masks b new = record b { gone = b.gone ++ mask_places new }

-- the new tasks go last in order of the list
abbrev pub with_new_tasks : Board → List Incoming → Board
with_new_tasks b new = with_all b new (with_masks b new) new

abbrev pub board_after : Board → List Incoming → Board
board_after b is = with_new_tasks b (new_tasks b is)

-- how many of the tasks on which it depends are neither on the board nor new
abbrev pub lost_links : Board → List Incoming → Incoming → ℕ
lost_links b new i = count_by (λ id. not (is_there b new id)) i.task.depends

abbrev pub counts_of : Board → List Incoming → List Incoming → ImportCounts
counts_of b is new = record {
  known = length is - length new;
  new = length new;
  dropped = sum_by (λ (i : Incoming). i.dropped) new;
  orphans = orphans b new (with_masks b new) new;
  unlinked = sum_by (lost_links b new) new;
}

abbrev pub counts_after : Board → List Incoming → ImportCounts
counts_after b is = counts_of b is (new_tasks b is)
