use Rattle.std.proofs.Common.{List, ℕ, [], ◌∷◌, ◌++◌}
use Rattle.std.specs.Prelude.{codes}
use Rattle.std.proofs.lemmas.Result.{on_err_weaker, on_ok_weaker}
use Rattle.tb_program.specs.Fault.{name_of}
use Rattle.tb_values.proofs.Appends.{Appends-then, AppendsFront-more, AppendsFront-then}
use Rattle.tb_orders.proofs.status.print_fault.Goals as goal

pub returns-in-Ok-clause-whole : goal.returns-in-Ok-clause-whole
returns-in-Ok-clause-whole g c =
    on_ok_weaker c.print_line.result (λ name. Appends-then (g.W.Write.contents c.args.writer.now) (g.W.Write.contents c.print_text.new.writer) (g.W.Write.contents c.print_line.new.writer)
    (codes "taskboard: ") (name_of c.args.fault ++ 10 ∷ []) c.in-Ok.ensures.whole name) (rw c.name.ensures at c.print_line.ensures.whole)

pub returns-in-Ok-clause-front : goal.returns-in-Ok-clause-front
returns-in-Ok-clause-front g c =
    on_err_weaker c.print_line.result (λ name. AppendsFront-then (g.W.Write.contents c.args.writer.now) (g.W.Write.contents c.print_text.new.writer) (g.W.Write.contents c.print_line.new.writer)
    (codes "taskboard: ") (name_of c.args.fault ++ 10 ∷ []) c.in-Ok.ensures.whole name) (rw c.name.ensures at c.print_line.ensures.front)

pub returns-in-Err-clause-front : goal.returns-in-Err-clause-front
returns-in-Err-clause-front g c =
    AppendsFront-more (g.W.Write.contents c.args.writer.now) (g.W.Write.contents c.print_text.new.writer) (codes "taskboard: ") (name_of c.args.fault ++ 10 ∷ []) c.in-Err.ensures.front
