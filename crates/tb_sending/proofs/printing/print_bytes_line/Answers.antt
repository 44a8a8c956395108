use Rattle.std.proofs.Common.{[], ◌∷◌}
use Rattle.std.proofs.lemmas.Result.{on_err_weaker, on_ok_weaker}
use Rattle.tb_values.proofs.Appends.{Appends-then, AppendsFront-more, AppendsFront-then}
use Rattle.tb_sending.proofs.printing.print_bytes_line.Goals as goal

pub returns-in-Ok-clause-whole : goal.returns-in-Ok-clause-whole
returns-in-Ok-clause-whole g c =
    on_ok_weaker c.print_bytes-in-Ok.result (λ feed. Appends-then (g.W.Write.contents c.args.writer.now) (g.W.Write.contents c.print_bytes.new.writer) (g.W.Write.contents c.print_bytes-in-Ok.new.writer)
    c.args.bytes.now (10 ∷ []) c.in-Ok.ensures.whole feed) c.print_bytes-in-Ok.ensures.whole

pub returns-in-Ok-clause-front : goal.returns-in-Ok-clause-front
returns-in-Ok-clause-front g c =
    on_err_weaker c.print_bytes-in-Ok.result (λ feed. AppendsFront-then (g.W.Write.contents c.args.writer.now) (g.W.Write.contents c.print_bytes.new.writer) (g.W.Write.contents c.print_bytes-in-Ok.new.writer)
    c.args.bytes.now (10 ∷ []) c.in-Ok.ensures.whole feed) c.print_bytes-in-Ok.ensures.front

pub returns-in-Err-clause-front : goal.returns-in-Err-clause-front
returns-in-Err-clause-front g c =
    AppendsFront-more (g.W.Write.contents c.args.writer.now) (g.W.Write.contents c.print_bytes.new.writer) c.args.bytes.now (10 ∷ []) c.in-Err.ensures.front
