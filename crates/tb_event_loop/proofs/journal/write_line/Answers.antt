use Rattle.std.proofs.Common.{[], sym}
use Rattle.std.proofs.lemmas.List.{append-nil}
use Rattle.tb_values.proofs.Appends.{AppendsFront-take}
use Rattle.tb_event_loop.proofs.journal.write_line.Goals as goal

pub returns-in-Ok-clause-front : goal.returns-in-Ok-clause-front
returns-in-Ok-clause-front g c = (c.args.line.now, [], sym (append-nil c.args.line.now), c.in-Ok.ensures.whole)

pub returns-in-Err-clause-front : goal.returns-in-Err-clause-front
returns-in-Err-clause-front g c =
    AppendsFront-take (g.W.Write.contents c.args.errors.now) (g.W.Write.contents c.write_whole.new.writer) c.in-Err.field-0.written c.args.line.now
    c.in-Err.ensures.cut.1
