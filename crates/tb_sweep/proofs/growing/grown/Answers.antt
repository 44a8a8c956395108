use Rattle.tb_sweep.proofs.Adding.{grown_none, read_at}
use Rattle.tb_sweep.proofs.Counting.{count_past}
use Rattle.tb_sweep.proofs.growing.grown.Goals as goal

pub returns-in_default-clause-grown : goal.returns-in_default-clause-grown
returns-in_default-clause-grown c = λ t at.
    let b = c.args.growing.draft.board in
    grown_none c.args.at b t c.task_at-template.result.now (read_at b.tasks c.args.place _ t c.requires.place c.task_at-template.ensures at)
    (count_past b c.args.growing.counts c.task_at-template.result.now.id c.requires.growing.counts c.in_default.ensures)
