use Rattle.std.proofs.Common.{◌∷◌, [], ◌∙◌}
use Rattle.std.proofs.lemmas.Result.{IfOk-weaker}
use Rattle.tb_script.proofs.Joining.{joined_lent}
use Rattle.tb_script.proofs.body.join_lines.Goals as goal

pub returns : goal.returns
returns c = IfOk-weaker c.join.result _ _ (λ text is. is ∙ joined_lent (10 ∷ []) c.args.lines.now) c.join.ensures.ok
