use Rattle.std.proofs.Common.{◌≡◌, ◌+◌, ◌≤◌, take}
use Rattle.std.specs.List.{count_by}
use Rattle.tb_keeper.specs.Counts.{is_new_board}
use Rattle.tb_keeper.proofs.at_hand.boards_with.Given as goal

-- those before are counted
abbrev pub invariant-loop-change : goal.invariant-loop-change
invariant-loop-change l = l.boards + count_by is_new_board (take l.change-index l.changes) ≤ 10000 → l.count ≡ l.boards + count_by is_new_board (take l.change-index l.changes)
