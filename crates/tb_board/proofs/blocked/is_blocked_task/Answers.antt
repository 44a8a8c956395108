use Rattle.std.proofs.Common.{◌≡◌, ◌∙◌, ap, get_or, subst, sym}
use Rattle.tb_task.specs.declared.task.Task.{Task}
use Rattle.tb_board.specs.Blocked.{is_blocked_among}
use Rattle.tb_board.proofs.LookingAround.{blocked_at}
use Rattle.tb_board.proofs.blocked.is_blocked_task.Goals as goal

pub returns : goal.returns
returns c =
    let b = c.args.board.now in
    let place = c.args.place in
    let t = c.get.result.now in
    let tasks = c.as_slice-tasks.result.now in
    let stands : t ≡ get_or tasks place t = subst (λ (u : Task). u ≡ get_or tasks place u) (sym c.get.ensures) c.index-tasks-place.is in
    c.is_blocked_in.ensures ∙ ap (λ ts. is_blocked_among ts t) c.as_slice-tasks.ensures ∙ sym (blocked_at b place t c.requires (rw c.as_slice-tasks.ensures at stands))
