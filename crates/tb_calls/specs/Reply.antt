-- The reply to a command: its number, its status, and its body as compact JSON.
use Rattle.std.specs.Prelude.{Result, Ok, Err}
use Rattle.serde_json.specs.Written.{compact_text}
use Rattle.tb_core.specs.declared.command.Answer.{Answer}
use Rattle.tb_core.specs.declared.refusal.Refusal.{Refusal}
use Rattle.tb_core.specs.Refusal.{number_of, status_of}
use Rattle.tb_calls.specs.declared.reply.Reply.{Reply}
use Rattle.tb_calls.specs.Bodies.{answer_body, refusal_body}

unfoldable pub reply_of : Result Answer Refusal → Reply
reply_of (Ok answer) = record { number = 0; status = 200; body = compact_text (answer_body answer) }
reply_of (Err refusal) =
    record {
      number = number_of refusal;
      status = status_of refusal;
      body = compact_text (refusal_body refusal);
    }
