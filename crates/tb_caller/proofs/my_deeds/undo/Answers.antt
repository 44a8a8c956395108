use Rattle.std.proofs.lemmas.Result.{IfOk-weaker}
use Rattle.tb_caller.proofs.Lines.{undone_of}
use Rattle.tb_caller.proofs.my_deeds.undo.Goals as goal

pub returns-in-Some-clause-asked : goal.returns-in-Some-clause-asked
returns-in-Some-clause-asked g c =
    let contents = g.W.Write.contents in
    let asker = c.args.caller.now.asker in
    IfOk-weaker c.undo_in.result _ _
    (λ ok p. (p.0, p.1, undone_of (λ folder name text. Unit {0}) c.in-Some.folder c.undo_in.new.folder (contents c.args.writer.now) (contents c.undo_in.new.writer) asker p.0 ok p.2))
    c.undo_in.ensures.asked
