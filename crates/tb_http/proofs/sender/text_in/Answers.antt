use Rattle.std.proofs.Common.{Some, sym, ap, ◌∙◌}
use Rattle.tb_http.proofs.SenderLemmas.{text_there, no_text_there}
use Rattle.tb_http.proofs.sender.text_in.Goals as goal

pub returns-in-Ok : goal.returns-in-Ok
returns-in-Ok c =
    let text = rw c.as_slice.ensures at c.in-Ok.ensures.cases in
    ap Some text.0 ∙ sym (text_there c.args.field.now text.1)

pub returns-in-Err : goal.returns-in-Err
returns-in-Err c =
    let fault = rw c.as_slice.ensures at c.in-Err.ensures.cases in
    sym (no_text_there c.args.field.now fault.0)
