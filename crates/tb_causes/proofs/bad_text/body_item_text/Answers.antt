use Rattle.std.proofs.Common.{rules, refl, ◌≡◌}
use Rattle.tb_causes.specs.BadText.{member_text}
use Rattle.tb_causes.proofs.bad_text.body_item_text.Goals as goal

pub returns : goal.returns
returns c =
    let wrong : c.as_str-wrong.result.now ≡ member_text c.args.item.now.member = search rules in
    rw (c.from_string.ensures, c.in_ok-write.ensures.bytes, c.new-text.ensures.bytes, c.number_of-task.ensures, wrong) refl
