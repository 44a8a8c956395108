use Rattle.std.proofs.lemmas.Result.{IfErr-at_err, IfOk-at_ok}
use Rattle.std.proofs.Common.{inr}
use Rattle.tb_keeper.proofs.ExportedBoards.{err_by}
use Rattle.tb_values.proofs.Appends.{AppendsFront-whole}
use Rattle.tb_files.proofs.Faults.{of_showing}
use Rattle.tb_files.proofs.view.show_board.Goals as goal

pub returns-in_ok-close_desk-in-Ok-clause-shown : goal.returns-in_ok-close_desk-in-Ok-clause-shown
returns-in_ok-close_desk-in-Ok-clause-shown g c = record {
  new = c.print_stored_view-desk.result.0;
  files = c.in_ok-close_desk-in-Ok.ensures.saved.0;
  saved = c.in_ok-close_desk-in-Ok.ensures.saved.1;
  at = c.in-Some.at;
  asked = rw c.in-Some.is at c.now.ensures.given;
  told = λ honest s held. IfOk-at_ok _ c.in-Ok.is (c.print_stored_view-desk.ensures.told honest s held);
  ends = λ honest s held. IfOk-at_ok _ c.in-Ok.is (c.print_stored_view-desk.ensures.ending honest s held);
  same = c.print_stored_view-desk.ensures.same;
}

pub returns-in-Err-clause-unwritten : goal.returns-in-Err-clause-unwritten
returns-in-Err-clause-unwritten g c is = record {
  new = c.print_stored_view-desk.result.0;
  at = c.in-Some.at;
  asked = rw c.in-Some.is at c.now.ensures.given;
  front = λ honest s held. IfErr-at_err _ c.in-Err.is (c.print_stored_view-desk.ensures.front honest s held);
}

pub returns-in-Err-clause-fault : goal.returns-in-Err-clause-fault
returns-in-Err-clause-fault g c = of_showing _ (IfErr-at_err _ c.in-Err.is c.print_stored_view-desk.ensures.fault)

pub returns-in-Err-clause-cut : goal.returns-in-Err-clause-cut
returns-in-Err-clause-cut g c = inr (record {
  new = c.print_stored_view-desk.result.0;
  at = c.in-Some.at;
  asked = rw c.in-Some.is at c.now.ensures.given;
  front = λ honest s held. IfErr-at_err _ c.in-Err.is (c.print_stored_view-desk.ensures.front honest s held);
})

pub returns-in_err-close_desk-in-Ok-clause-cut : goal.returns-in_err-close_desk-in-Ok-clause-cut
returns-in_err-close_desk-in-Ok-clause-cut g c = err_by c.from_residual.result (inr (record {
  new = c.print_stored_view-desk.result.0;
  at = c.in-Some.at;
  asked = rw c.in-Some.is at c.now.ensures.given;
  front = λ honest s held. AppendsFront-whole _ _ _ (IfOk-at_ok _ c.in-Ok.is (c.print_stored_view-desk.ensures.told honest s held));
}))
