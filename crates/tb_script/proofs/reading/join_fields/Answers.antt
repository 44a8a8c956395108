use Rattle.std.proofs.Common.{◌∷◌, [], ◌∙◌, ap}
use Rattle.tb_script.proofs.Joining.{joined_lent}
use Rattle.tb_script.proofs.reading.join_fields.Goals as goal

pub returns : goal.returns
returns c = c.from_vec.ensures ∙ ap (λ v. v.items) c.into_bytes.ensures.value ∙ c.in_ok-text.ensures.ok ∙ joined_lent (9 ∷ []) c.args.fields.now
