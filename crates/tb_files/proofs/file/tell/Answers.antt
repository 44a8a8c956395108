use Rattle.std.proofs.Common.{List, ℕ}
use Rattle.std.specs.Prelude.{codes}
use Rattle.std.proofs.lemmas.Result.{on_err_weaker, on_ok_weaker}
use Rattle.tb_files.specs.Notice.{rest_of_notice}
use Rattle.tb_values.proofs.Appends.{Appends-then, AppendsFront-more, AppendsFront-then}
use Rattle.tb_files.proofs.file.tell.Goals as goal

pub returns-in-Ok-clause-whole : goal.returns-in-Ok-clause-whole
returns-in-Ok-clause-whole g c =
    on_ok_weaker c.tell_rest.result (λ rest. Appends-then (g.W.Write.contents c.args.writer.now) (g.W.Write.contents c.print_text.new.writer) (g.W.Write.contents c.tell_rest.new.writer)
    (codes "taskboard: ") (rest_of_notice c.args.path.now c.args.what.now) c.in-Ok.ensures.whole rest) c.tell_rest.ensures.whole

pub returns-in-Ok-clause-front : goal.returns-in-Ok-clause-front
returns-in-Ok-clause-front g c =
    on_err_weaker c.tell_rest.result (λ rest. AppendsFront-then (g.W.Write.contents c.args.writer.now) (g.W.Write.contents c.print_text.new.writer) (g.W.Write.contents c.tell_rest.new.writer)
    (codes "taskboard: ") (rest_of_notice c.args.path.now c.args.what.now) c.in-Ok.ensures.whole rest) c.tell_rest.ensures.front

pub returns-in-Err-clause-front : goal.returns-in-Err-clause-front
returns-in-Err-clause-front g c =
    AppendsFront-more (g.W.Write.contents c.args.writer.now) (g.W.Write.contents c.print_text.new.writer) (codes "taskboard: ") (rest_of_notice c.args.path.now c.args.what.now) c.in-Err.ensures.front
