use Rattle.tb_values.proofs.Appends.{AppendsFront-take}
use Rattle.tb_keeper.proofs.exporting.write_text.Goals as goal

pub returns-in-Err-clause-front : goal.returns-in-Err-clause-front
returns-in-Err-clause-front g c =
    AppendsFront-take (g.W.Write.contents c.args.writer.now) (g.W.Write.contents c.write_whole.new.writer) c.in-Err.field-0.written c.args.text.now
    (rw c.as_bytes.ensures.value at c.in-Err.ensures.cut.1)
