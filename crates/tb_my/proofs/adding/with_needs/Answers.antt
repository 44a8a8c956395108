use Rattle.std.proofs.Common.{rules}
use Rattle.tb_my.proofs.Needed.{with_first}
use Rattle.tb_my.proofs.adding.with_needs.Goals as goal

pub returns : goal.returns
returns c =
    with_first c.args.said c.args.needed.now c.first-item.result c.in_ok-from_str.field-0 c.in_ok-ids_joined.field-0 c.push.new.self c.in-len1-up.len_at_least c.first-item.is
    (search rules) c.in_ok-ids_joined.ensures (search rules)
