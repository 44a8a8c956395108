use Rattle.tb_values.proofs.Appends.{AppendsFront-take}
use Rattle.tb_sending.proofs.printing.print_bytes.Goals as goal

pub returns-in-Err-clause-front : goal.returns-in-Err-clause-front
returns-in-Err-clause-front g c =
    AppendsFront-take (g.W.Write.contents c.args.writer.now) (g.W.Write.contents c.write_whole.new.writer) c.in-Err.field-0.written c.args.bytes.now
    c.in-Err.ensures.cut.1
