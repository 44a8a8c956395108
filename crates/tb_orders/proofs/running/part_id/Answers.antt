use Rattle.std.proofs.Common.{◌≡◌, ◌∙◌, ap, decimal, rules}
use Rattle.tb_task.specs.TaskId.{named_id}
use Rattle.tb_orders.proofs.running.part_id.Goals as goal

pub returns : goal.returns
returns c =
    let name : c.as_bytes.result.now ≡ decimal c.args.number = search rules in
    c.named.ensures ∙ ap (named_id c.args.id) name
