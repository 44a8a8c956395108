use Rattle.std.proofs.Common.{refl}
use Rattle.std.proofs.lemmas.Result.{on_err_weaker}
use Rattle.tb_desk.specs.contracts.list_keep.ListKeepKeep.TheImpl as list_keep
use Rattle.tb_script.specs.Answering.{first_state}
use Rattle.tb_script.proofs.Runs.{known_front}
use Rattle.tb_script.proofs.run_lines.Goals as goal

pub returns-clause-answers : goal.returns-clause-answers
returns-clause-answers g c = c.run_lines_on.ensures.answers refl first_state c.in_ok-desk.ensures

pub returns-clause-front : goal.returns-clause-front
returns-clause-front g c =
    on_err_weaker c.run_lines_on.result
    (known_front first_state c.args.reader.now.left (g.W.Write.contents c.args.writer.now) (g.W.Write.contents c.run_lines_on.new.writer) ((list_keep.ghosts).holds c.run_lines_on.new.desk))
    (c.run_lines_on.ensures.front refl first_state c.in_ok-desk.ensures)
