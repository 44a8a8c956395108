use Rattle.std.proofs.Common.{◌≡◌, ◌++◌, ◌∷◌, decimal, ap, ◌∙◌, rules}
use Rattle.tb_task.specs.TaskId.{made, named_id}
use Rattle.tb_todotxt.specs.Line.{spell}
use Rattle.tb_todotxt.proofs.making.line_id.Goals as goal

pub returns : goal.returns
returns c =
    let name : c.as_bytes.result.now ≡ spell c.args.line.now ++ 10 ∷ decimal c.args.occurrence = search rules in
    c.named.ensures ∙ ap (λ s. named_id s c.as_bytes.result.now) c.space.ensures ∙ ap (named_id (made c.args.board 0)) name
