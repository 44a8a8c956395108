use Rattle.std.proofs.Common.{◌∙◌, Some, ap}
use Rattle.tb_desk.proofs.Lists.{by_name, key_order, lookup_named}
use Rattle.tb_desk.proofs.list_keep.kept_in.Goals as goal

pub returns-in_ok-duplicate-in-Some : goal.returns-in_ok-duplicate-in-Some
returns-in_ok-duplicate-in-Some c = ap Some c.in_ok-duplicate-in-Some.ensures ∙ c.in-Some.ensures.value ∙ lookup_named key_order by_name c.args.name.now c.args.kept.now.entries

pub returns-in-None : goal.returns-in-None
returns-in-None c = c.in-None.ensures.value ∙ lookup_named key_order by_name c.args.name.now c.args.kept.now.entries
