use Rattle.std.proofs.Common.{◌≡◌, ◌++◌, length, string_bytes, rules, ap, ◌∙◌}
use Rattle.tb_report.specs.Rank.{rank_order, ordered}
use Rattle.tb_report.specs.Lists.{ranks_from, lines, last_line}
use Rattle.tb_report.specs.Marked.{waits_in}
use Rattle.tb_report.proofs.Listed.{written}
use Rattle.tb_report.proofs.lists.list_tasks.Goals as goal

pub returns : goal.returns
returns c =
    let waits = waits_in c.args.waits.now.blocked.items c.args.waits.now.blocking.items in
    let order : c.in_ok-ranks.ranks.items ≡ ordered rank_order (ranks_from waits c.args.at 0 c.args.tasks.now)
    = c.in_ok-ranks.ensures ∙ ap (ordered rank_order) c.in_ok-ranks_of.ensures in
    let lined : string_bytes c.push_lines.new.text ≡ string_bytes c.in_ok-text.text ++ lines waits c.args.tasks.now c.in_ok-ranks.ranks.items
    = rw (← c.as_slice.ensures.value) (c.in_ok-push_lines.ensures) in
    let ended : string_bytes c.push_last_line.new.text ≡ string_bytes c.push_lines.new.text ++ last_line (length c.in_ok-ranks.ranks.items) (length c.args.tasks.now)
    = c.in_ok-push_last_line.ensures ∙ ap (λ n. string_bytes c.push_lines.new.text ++ last_line n (length c.args.tasks.now)) (search rules) in
    c.from_string.ensures ∙ written waits c.args.at c.args.tasks.now c.in_ok-ranks.ranks.items (string_bytes c.in_ok-text.text) (string_bytes c.push_lines.new.text) (string_bytes c.push_last_line.new.text)
    order c.in_ok-text.ensures lined ended
