use Rattle.std.proofs.Common.{◌≡◌, refl, subst}
use Rattle.std.specs.Result.{IfOk}
use Rattle.tb_task.specs.TaskId.{id_text}
use Rattle.tb_task.proofs.task_id.TaskId.text.Goals as goal

pub returns : goal.returns
returns c =
    let written : c.encode_lower-text.result.now ≡ id_text c.args.self =
    rw (c.encode_lower-text.ensures.text, c.hyphenated.ensures, c.from_u128.ensures, ← c.self.view_is) refl in
    subst (λ text. IfOk c.from_str.result (λ t. t ≡ text)) written c.from_str.ensures
