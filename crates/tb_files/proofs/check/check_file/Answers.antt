use Rattle.std.proofs.Common.{inl, inr}
use Rattle.tb_files.proofs.Begun.{begun_as}
use Rattle.tb_files.proofs.check.check_file.Goals as goal

pub returns-in-Ok-check_rows-clause-checked : goal.returns-in-Ok-check_rows-clause-checked
returns-in-Ok-check_rows-clause-checked g c = record {
  old = c.into_keep.result;
  begun = begun_as _ c.args.conn c.into_keep.result c.in-Ok.desk c.into_keep.ensures c.in-Ok.ensures.begun;
  does = c.in-Ok-check_rows.ensures.checked;
}

pub returns-in-Err-check_rows-clause-cut : goal.returns-in-Err-check_rows-clause-cut
returns-in-Err-check_rows-clause-cut g c = elim c.in-Err-check_rows.ensures.cut [
  | inl none ↦ inl none
  | inr cut ↦ inr (record {
    old = c.into_keep.result;
    begun = begun_as _ c.args.conn c.into_keep.result c.in-Ok.desk c.into_keep.ensures c.in-Ok.ensures.begun;
    does = cut;
  })
]
