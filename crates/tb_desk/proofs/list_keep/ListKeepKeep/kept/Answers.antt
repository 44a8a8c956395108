use Rattle.std.proofs.Common.{◌∙◌, sym, ap, map}
use Rattle.std.specs.FinMap.{find, get, get-from_entries}
use Rattle.tb_calls.specs.Call.{State, name_cmp}
use Rattle.tb_desk.specs.ListKeep.{named}
use Rattle.tb_calls.proofs.Names.{names_total}
use Rattle.tb_desk.proofs.list_keep.ListKeepKeep.kept.Goals as goal

pub returns-clause-answer : goal.returns-clause-answer
returns-clause-answer c honest s held =
    c.in_ok-kept_in.ensures
    ∙ ap (λ name. find name_cmp name (map named c.args.self.now.kept.entries)) c.in_ok-name.ensures
    ∙ sym (get-from_entries names_total (map named c.args.self.now.kept.entries) (c.args.name.now, c.args.id))
    ∙ ap (λ (t : State). get t.kept (c.args.name.now, c.args.id)) (sym held.is)
