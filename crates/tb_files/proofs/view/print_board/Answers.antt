use Rattle.std.proofs.Common.{Err, ap, inl, inr}
use Rattle.tb_files.proofs.view.print_board.Goals as goal

pub returns-in-Err-show_board-clause-unwritten : goal.returns-in-Err-show_board-clause-unwritten
returns-in-Err-show_board-clause-unwritten g c is = record {
  old = c.in-Ok.desk;
  begun = c.in-Ok.ensures.begun;
  does = c.in-Err-show_board.ensures.unwritten (ap Err is);
}

pub returns-in-Err-show_board-clause-cut : goal.returns-in-Err-show_board-clause-cut
returns-in-Err-show_board-clause-cut g c = elim c.in-Err-show_board.ensures.cut [
  | inl none ↦ inl none
  | inr cut ↦ inr (record { old = c.in-Ok.desk; begun = c.in-Ok.ensures.begun; does = cut })
]
