use Rattle.std.proofs.Common.{◌++◌, [], ◌∷◌}
use Rattle.std.proofs.lemmas.Result.{on_err_weaker, on_ok_weaker}
use Rattle.tb_values.proofs.Appends.{Appends-then, AppendsFront-more, AppendsFront-then}
use Rattle.tb_files.proofs.file.tell_rest.Goals as goal

pub returns-in-Ok-clause-whole : goal.returns-in-Ok-clause-whole
returns-in-Ok-clause-whole g c =
    on_ok_weaker c.print_line.result (λ rest. Appends-then (g.W.Write.contents c.args.writer.now) (g.W.Write.contents c.print_text.new.writer) (g.W.Write.contents c.print_line.new.writer)
    c.args.path.now (c.args.what.now ++ 10 ∷ []) c.in-Ok.ensures.whole rest) c.print_line.ensures.whole

pub returns-in-Ok-clause-front : goal.returns-in-Ok-clause-front
returns-in-Ok-clause-front g c =
    on_err_weaker c.print_line.result (λ rest. AppendsFront-then (g.W.Write.contents c.args.writer.now) (g.W.Write.contents c.print_text.new.writer) (g.W.Write.contents c.print_line.new.writer)
    c.args.path.now (c.args.what.now ++ 10 ∷ []) c.in-Ok.ensures.whole rest) c.print_line.ensures.front

pub returns-in-Err-clause-front : goal.returns-in-Err-clause-front
returns-in-Err-clause-front g c =
    AppendsFront-more (g.W.Write.contents c.args.writer.now) (g.W.Write.contents c.print_text.new.writer) c.args.path.now (c.args.what.now ++ 10 ∷ []) c.in-Err.ensures.front
