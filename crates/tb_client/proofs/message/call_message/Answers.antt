use Rattle.std.proofs.Common.{rules, refl, ◌≡◌}
use Rattle.tb_task.specs.TaskId.{id_text}
use Rattle.tb_client.specs.Request.{sender_lines}
use Rattle.tb_client.proofs.message.call_message.Goals as goal

pub returns : goal.returns
returns c =
    let lines : c.as_str-lines.result.now ≡ sender_lines c.args.sender.now = search rules in
    let id : c.as_str-id.result.now ≡ id_text c.args.id = search rules in
    rw (c.from_string.ensures, c.in_ok-write.ensures.bytes, c.new-text.ensures.bytes, lines, id) refl
