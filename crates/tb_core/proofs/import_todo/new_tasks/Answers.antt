use Rattle.std.proofs.Common.{arith, ◌+◌, ◌++◌, refl, sym, ap, ◌∙◌, subst}
use Rattle.std.proofs.lemmas.List.{map-append}
use Rattle.tb_core.proofs.Importing.{found_known, found_new, IsFoundTo, nows}
use Rattle.tb_core.proofs.import_todo.new_tasks.Goals as goal
use Rattle.tb_core.proofs.import_todo.new_tasks.Goals.{then-branch+in_ok-push, else-branch}

pub loop-task-preserved : goal.loop-task-preserved
loop-task-preserved c =
    let before = c.args.before.now in
    let ts = c.args.tasks.now in
    let i = c.loop-task.task-index in
    let t = c.task-item.result in
    let new = nows c.loop-task.new.items in
    let is_new = c.in_ok-add_id.ensures.new (before ++ new) c.loop-task.invariant.known in
    let has = c.in_ok-add_id.ensures.more (before ++ new) t refl c.loop-task.invariant.known in
    elim c.if-branch.branch [
      | then-branch+in_ok-push w ↦
          let items = ap nows (ap (λ v. v.items) w.new-is ∙ w.in_ok-push.ensures.items) ∙ map-append (λ u. u.now) c.loop-task.new.items _ in
          subst (λ us. IsFoundTo before ts us c.add_id.new.ids (i + 1)) (sym items)
          (found_new before ts new c.loop-task.known c.add_id.new.ids i t (omega arith) c.task-item.is c.loop-task.invariant (sym w.if-branch.true ∙ is_new) has)
      | else-branch w ↦
          rw w.new-is
          (found_known before ts new c.loop-task.known c.add_id.new.ids i t (omega arith) c.task-item.is c.loop-task.invariant (sym w.if-branch.false ∙ is_new) has)
    ]
