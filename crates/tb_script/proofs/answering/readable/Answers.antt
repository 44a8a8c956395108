use Rattle.std.proofs.Common.{arith}
use Rattle.tb_script.proofs.Readable.{readable_text, no_text}
use Rattle.tb_script.proofs.answering.readable.Goals as goal

pub returns-in-Ok : goal.returns-in-Ok
returns-in-Ok c = (c.in-Ok.ensures.cases.0, readable_text c.args.line.now c.in-Ok.ensures.cases.1 (omega arith))

pub returns-in-Err : goal.returns-in-Err
returns-in-Err c = no_text c.args.line.now c.in-Err.ensures.cases.0
