use Rattle.std.proofs.Common.{rules, refl, ◌≡◌}
use Rattle.tb_client.specs.Request.{sender_lines}
use Rattle.tb_client.proofs.message.view_message.Goals as goal

pub returns : goal.returns
returns c =
    let lines : c.as_str-lines.result.now ≡ sender_lines c.args.sender.now = search rules in
    rw (c.from_string.ensures, c.in_ok-write.ensures.bytes, c.new-text.ensures.bytes, lines) refl
