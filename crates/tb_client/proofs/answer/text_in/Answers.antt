use Rattle.std.proofs.Common.{Some, sym, ap, ◌∙◌}
use Rattle.tb_client.proofs.Replies.{text_there, no_text_there}
use Rattle.tb_client.proofs.answer.text_in.Goals as goal

pub returns-in-Ok : goal.returns-in-Ok
returns-in-Ok c =
    let text = c.in-Ok.ensures.cases in
    ap Some text.0 ∙ sym (text_there c.args.value.now text.1)

pub returns-in-Err : goal.returns-in-Err
returns-in-Err c =
    let fault = c.in-Err.ensures.cases in
    sym (no_text_there c.args.value.now fault.0)
