use Rattle.tb_good.proofs.TakenPlaces.{runs_tell}
use Rattle.tb_good.proofs.Telling.{last_tells, part_fails}
use Rattle.tb_good.proofs.runs.have_runs.Goals as goal

pub returns-then-not-branch : goal.returns-then-not-branch
returns-then-not-branch c =
    part_fails c.in_ok-are_distinct.field-0 c.if-not-branch.true (rw (c.as_slice.ensures.value, c.in_ok-places.ensures) at c.in_ok-are_distinct.ensures) (λ runs. ((runs_tell c.args.board.now).0 runs).0)

pub returns : goal.returns
returns c =
    last_tells c.are_below_counts.result
    (λ below. (runs_tell c.args.board.now).1 ((rw (c.as_slice.ensures.value, c.in_ok-places.ensures) at c.in_ok-are_distinct.ensures).0 c.if-not-branch.false, below))
    (λ runs. ((runs_tell c.args.board.now).0 runs).1) (rw (c.as_slice-2.ensures.value, c.in_ok-places.ensures) at c.are_below_counts.ensures)
