use Rattle.tb_good.proofs.Telling.{last_tells, part_fails}
use Rattle.tb_good.proofs.worlds.has_good_boards.Goals as goal

pub returns-then-not-are_numbered : goal.returns-then-not-are_numbered
returns-then-not-are_numbered c = part_fails c.are_numbered.result c.if-not-are_numbered.true (rw c.as_slice-boards.ensures at c.are_numbered.ensures) (λ good. good.numbered)

pub returns-then-not-branch : goal.returns-then-not-branch
returns-then-not-branch c = part_fails c.in_ok-have_owners.field-0 c.if-not-branch.true c.in_ok-have_owners.ensures (λ good. good.owned)

pub returns : goal.returns
returns c =
    last_tells c.are_good.result
    (λ all. record {
      boards = rw c.as_slice-boards.ensures at c.if-boards-gt-MOST_BOARDS.false;
      numbered = (rw c.as_slice-boards.ensures at c.are_numbered.ensures).0 c.if-not-are_numbered.false;
      owned = c.in_ok-have_owners.ensures.0 c.if-not-branch.false;
      good = all;
    })
    (λ good. good.good) (rw c.as_slice-boards.ensures at c.are_good.ensures)
