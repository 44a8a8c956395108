use Rattle.std.proofs.Common.{◌∙◌, ap, sym}
use Rattle.std.proofs.lemmas.Result.{IfOk-weaker}
use Rattle.tb_desk.specs.Viewing.{view_of}
use Rattle.tb_desk.proofs.viewing.look_at.Goals as goal

pub returns-in-HistoryFrom-clause-told : goal.returns-in-HistoryFrom-clause-told
returns-in-HistoryFrom-clause-told g c honest s held known =
    IfOk-weaker c.show_history-in-HistoryFrom.result _ _ (λ shown told. told ∙ ap (λ v. view_of s c.args.name.now v c.args.at) (sym c.in-HistoryFrom.is))
    (c.show_history-in-HistoryFrom.ensures.told honest s held known)

pub returns-in-HistoryOf-clause-told : goal.returns-in-HistoryOf-clause-told
returns-in-HistoryOf-clause-told g c honest s held known =
    IfOk-weaker c.show_history_of.result _ _ (λ shown told. told ∙ ap (λ v. view_of s c.args.name.now v c.args.at) (sym c.in-HistoryOf.is))
    (c.show_history_of.ensures.told honest s held known)
