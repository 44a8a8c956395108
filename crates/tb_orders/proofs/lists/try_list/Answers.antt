use Rattle.std.proofs.Common.{◌≤◌, length, rules}
use Rattle.tb_task.specs.Limits.{most_items}
use Rattle.tb_orders.proofs.Halves.{tried_text}
use Rattle.tb_orders.proofs.lists.try_list.Goals as goal

pub returns-clause-text : goal.returns-clause-text
returns-clause-text c =
    let few : length c.args.items.items ≤ most_items = search rules in
    tried_text c.args.items c.in_ok-text.text c.short_text.result c.short_text.ensures c.in_ok-text.ensures.value few
