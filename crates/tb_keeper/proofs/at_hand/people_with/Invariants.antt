use Rattle.std.proofs.Common.{◌≡◌, ◌+◌, ◌≤◌, take}
use Rattle.std.specs.List.{count_by}
use Rattle.tb_keeper.specs.Counts.{is_new_person}
use Rattle.tb_keeper.proofs.at_hand.people_with.Given as goal

-- those before are counted
abbrev pub invariant-loop-change : goal.invariant-loop-change
invariant-loop-change l = l.people + count_by is_new_person (take l.change-index l.changes) ≤ 10000 → l.count ≡ l.people + count_by is_new_person (take l.change-index l.changes)
