use Rattle.std.proofs.Common.{rules}
use Rattle.tb_sending.proofs.Settled.{sends_not}
use Rattle.tb_sending.proofs.sending.send_settled.Goals as goal

pub returns-in-Ok-None-clause-unsent : goal.returns-in-Ok-None-clause-unsent
returns-in-Ok-None-clause-unsent g c =
    sends_not g.L.Line.follows g.W.Write.contents c.send_over.result c.args.order.now c.send_over.new.order
    c.args.line.now c.settle.new.line c.send_over.new.line c.args.writer.now c.settle.new.writer c.send_over.new.writer
    (search rules) (search rules) c.send_over.ensures.unsent
