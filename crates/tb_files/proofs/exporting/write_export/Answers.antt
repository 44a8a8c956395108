use Rattle.std.proofs.Common.{◌≡◌, subst, true}
use Rattle.std.proofs.lemmas.Result.{IfErr-at_err}
use Rattle.tb_files.proofs.Exported.{told_front, told_whole}
use Rattle.tb_files.proofs.exporting.write_export.Goals as goal

pub returns-in-Ok-clause-told : goal.returns-in-Ok-clause-told
returns-in-Ok-clause-told g c honest s held accepted =
    let found = subst (λ keep. g.K.Keep.is_honest keep ≡ true) c.new-desk.ensures honest in
    told_whole s c.args.order.now c.args.at c.requires accepted _ _ _ (c.in-Ok.ensures.told found s held)

pub returns-in-Err-WriteFailed-clause-front : goal.returns-in-Err-WriteFailed-clause-front
returns-in-Err-WriteFailed-clause-front g c honest s held accepted =
    let found = subst (λ keep. g.K.Keep.is_honest keep ≡ true) c.new-desk.ensures honest in
    told_front s c.args.order.now c.args.at c.requires accepted _ _ _ (IfErr-at_err _ c.in-Err-WriteFailed.is (c.export_board-written.ensures.front found s held))

pub returns-in-Err-Store-clause-front : goal.returns-in-Err-Store-clause-front
returns-in-Err-Store-clause-front g c honest s held accepted =
    let found = subst (λ keep. g.K.Keep.is_honest keep ≡ true) c.new-desk.ensures honest in
    told_front s c.args.order.now c.args.at c.requires accepted _ _ _ (IfErr-at_err _ c.in-Err-Store.is (c.export_board-written.ensures.front found s held))

pub returns-in-Err-Memory-clause-front : goal.returns-in-Err-Memory-clause-front
returns-in-Err-Memory-clause-front g c honest s held accepted =
    let found = subst (λ keep. g.K.Keep.is_honest keep ≡ true) c.new-desk.ensures honest in
    told_front s c.args.order.now c.args.at c.requires accepted _ _ _ (IfErr-at_err _ c.in-Err-Memory.is (c.export_board-written.ensures.front found s held))
