use Rattle.std.proofs.Common.{◌≡◌, subst}
use Rattle.std.specs.Prelude.{IfOk}
use Rattle.tb_keeper.proofs.NotedMarks.{own_marks}
use Rattle.tb_keeper.proofs.noting.marked.Goals as goal

pub returns : goal.returns
returns c =
    subst (λ marks. IfOk c.marked_by.result (λ mask. mask ≡ marks)) (own_marks c.args.notes.now c.args.id c.args.stored.now)
    (rw (c.as_slice.ensures, c.in_ok-own.ensures) at c.marked_by.ensures)
