use Rattle.tb_good.proofs.Parts.{board_of, instances_of, links_of, tasks_of}
use Rattle.tb_good.proofs.Telling.{last_tells, part_fails}
use Rattle.tb_good.proofs.boards.is_good_board.Goals as goal

pub returns-then-not-branch : goal.returns-then-not-branch
returns-then-not-branch c = part_fails c.in_ok-has_good_tasks.field-0 c.if-not-branch.true c.in_ok-has_good_tasks.ensures (tasks_of c.args.board.now)

pub returns-then-not-branch-2 : goal.returns-then-not-branch-2
returns-then-not-branch-2 c = part_fails c.in_ok-has_good_links.field-0 c.if-not-branch-2.true c.in_ok-has_good_links.ensures (links_of c.args.board.now)

pub returns : goal.returns
returns c =
    last_tells c.has_good_instances.result
    (board_of c.args.board.now (c.in_ok-has_good_tasks.ensures.0 c.if-not-branch.false) (c.in_ok-has_good_links.ensures.0 c.if-not-branch-2.false))
    (instances_of c.args.board.now) c.has_good_instances.ensures
