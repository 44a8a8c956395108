use Rattle.std.proofs.Common.{◌≡◌, ℕ, Bool, List, [], ap, ◌∙◌, subst}
use Rattle.tb_http.specs.declared.answer.Answer.{Answer}
use Rattle.tb_http.specs.Answer.{answer_text}
use Rattle.tb_http.specs.Message.{takes_body}
use Rattle.tb_site.specs.Site.{file_answer}
use Rattle.tb_serve.specs.declared.response.Response.{Response}
use Rattle.tb_serve.specs.Serving.{Sends}
use Rattle.tb_serve.specs.Telling.{answer_of, told_text}
use Rattle.tb_serve.proofs.Pages.{boards_tell, file_handled, file_settles}
use Rattle.tb_serve.proofs.serving.handle_message.Goals as goal

pub returns-in-Some-clause-handles : goal.returns-in-Some-clause-handles
returns-in-Some-clause-handles g c y s held only =
    let message = c.args.message.now in
    let file = c.in-Some.file.now in
    let old = g.W.Write.contents c.args.writer.now in
    let new = g.W.Write.contents c.send.new.writer in
    let answer = file_answer file c.args.is_last (takes_body message) in
    let answer_is : c.answer-answer.result ≡ answer =
    c.answer-answer.ensures ∙ ap (λ (b : Bool). file_answer file c.args.is_last b) c.takes_body.ensures in
    let sends : Sends old new [] (answer_text answer file.body) c.send.result =
    subst (λ (body : List ℕ). Sends old new [] (answer_text answer body) c.send.result) c.as_slice.ensures
    (subst (λ (a : Answer). Sends old new [] (answer_text a c.as_slice.result.now) c.send.result) answer_is c.send.ensures) in
    file_handled c.args.paths.now.site s message c.args.at c.args.is_last file old new c.send.result
    (g.K.Keep.holds c.args.desk.now) (g.K.Keep.after_stop c.args.desk.now) c.in-Some.ensures sends held only

pub returns-in-Some-clause-stands : goal.returns-in-Some-clause-stands
returns-in-Some-clause-stands g c s held only =
    file_settles c.args.paths.now.site s c.args.message.now c.args.at c.in-Some.file.now
    (g.K.Keep.holds c.args.desk.now) (g.K.Keep.after_stop c.args.desk.now) c.in-Some.ensures held only

pub returns-in-Ok-clause-handles : goal.returns-in-Ok-clause-handles
returns-in-Ok-clause-handles g c y s held only =
    let message = c.args.message.now in
    let told : Response = c.in-Ok.told in
    let last = c.args.is_last in
    let sends_body = takes_body message in
    let answer_is : c.answer-answer-in-Ok.result ≡ answer_of told last sends_body =
    c.answer-answer-in-Ok.ensures ∙ ap (λ (b : Bool). answer_of told last b) c.takes_body-in-Ok.ensures in (
      answer_text c.answer-answer-in-Ok.result c.as_bytes.result.now,
      c.send-in-Ok.ensures,
      (
        ap (λ (a : Answer). answer_text a c.as_bytes.result.now) answer_is
            ∙ ap (λ (body : List ℕ). answer_text (answer_of told last sends_body) body) c.as_bytes.ensures
            ∙ ap (λ (t : Response). told_text t last sends_body)
            (c.in-Ok.ensures.told y s held ∙ boards_tell c.args.paths.now.site s message c.args.at c.in_default.ensures),
        c.in-Ok.ensures.stands s held only,
      ),
    )
