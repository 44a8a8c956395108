use Rattle.std.proofs.Common.{inr}
use Rattle.tb_keeper.proofs.ExportedBoards.{err_by}
use Rattle.tb_values.proofs.Appends.{AppendsFront-whole}
use Rattle.tb_files.proofs.check.check_rows.Goals as goal

pub returns-clause-checked : goal.returns-clause-checked
returns-clause-checked g c = record {
  new = c.audit.new.self;
  files = c.in_ok-close_keep.ensures.saved.0;
  saved = c.in_ok-close_keep.ensures.saved.1;
  audit = c.in-Ok.audit;
  counted = c.in-Ok.ensures.whole;
  told = c.in_ok-ending.ensures.told;
  ends = c.in_ok-ending.ensures.ending;
}

pub returns-in_err-ending-clause-cut : goal.returns-in_err-ending-clause-cut
returns-in_err-ending-clause-cut g c = err_by c.from_residual.result (inr (record {
  new = c.audit.new.self;
  audit = c.in-Ok.audit;
  counted = c.in-Ok.ensures.whole;
  front = c.in_err-ending.ensures.front;
}))

pub returns-in_err-close_keep-clause-cut : goal.returns-in_err-close_keep-clause-cut
returns-in_err-close_keep-clause-cut g c = err_by c.from_residual-in_err-close_keep.result (inr (record {
  new = c.audit.new.self;
  audit = c.in-Ok.audit;
  counted = c.in-Ok.ensures.whole;
  front = AppendsFront-whole _ _ _ c.in_ok-ending.ensures.told;
}))
