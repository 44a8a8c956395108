use Rattle.std.proofs.Common.{◌∙◌, ap, ◌++◌, option_to_list}
use Rattle.tb_desk.proofs.Lists.{by_name, committed, either_second, key_order}
use Rattle.tb_desk.proofs.list_keep.ListKeepKeep.commit.Goals as goal

pub returns-clause-ok : goal.returns-clause-ok
returns-clause-ok c s held may =
    committed key_order by_name c.args.self.now.world c.in_ok-world.world c.args.self.now.kept.entries c.insert.new.self.entries c.args.self.now.entries.items c.put_last.new.entries.items c.in_ok-name.name c.in_ok-kept.kept
    c.in_ok-entry.entry c.args.changes.now c.args.deed c.args.call.now c.args.reply.now c.in_ok-world.ensures c.in_ok-insert.ensures.entries c.in_ok-name.ensures c.in_ok-kept.ensures c.in_ok-entry.ensures
    (c.put_last.ensures ∙ ap (λ xs. xs ++ option_to_list c.in_ok-entry.entry) c.in_ok-reserve.ensures.items) s held may

pub returns-clause-store : goal.returns-clause-store
returns-clause-store c s held may fine = either_second _ _ _ _ _ (returns-clause-ok c s held may)
