use Rattle.tb_files.proofs.Begun.{begun_as}
use Rattle.tb_files.proofs.Unopened.{by_opening}
use Rattle.tb_files.proofs.file.open_desk.Goals as goal

pub returns-in-Ok-clause-begun : goal.returns-in-Ok-clause-begun
returns-in-Ok-clause-begun g c = begun_as _ c.args.conn c.with_notice.result c.in-Ok.desk c.with_notice.ensures (record {
  ours = c.in-Ok.ensures.ours;
  at = λ clean s rows. c.in-Ok.ensures.begun (c.requires.opens clean) s rows;
})

pub returns-in-Err-clause-untaken : goal.returns-in-Err-clause-untaken
returns-in-Err-clause-untaken g c = rw c.fault_of_opening.ensures.value
    (by_opening c.args.conn c.in-Err.left c.in-Err.fault c.in-Err.ensures.refused)
