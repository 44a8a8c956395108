use Rattle.std.proofs.Common.{Some, sym, ap, ◌∙◌, arith}
use Rattle.tb_history.proofs.Contents.{other_not_shown, text_shown}
use Rattle.tb_history.proofs.content.short_text.Goals as goal

pub returns-in-Ok : goal.returns-in-Ok
returns-in-Ok c =
    let text = c.in-Ok.ensures.cases in
    ap Some text.0 ∙ sym (text_shown c.args.content.now (omega arith) text.1)

pub returns-in-Err : goal.returns-in-Err
returns-in-Err c = sym (other_not_shown c.args.content.now c.in-Err.ensures.cases.0)
