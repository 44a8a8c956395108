use Rattle.std.proofs.Common.{◌≡◌, ◌+◌, ◌==◌, false, sym, ◌∙◌, arith, length, get_or, subst}
use Rattle.std.proofs.lemmas.Bool.{ne_eqb}
use Rattle.tb_task.specs.declared.task.Task.{Task}
use Rattle.tb_board.specs.Blocked.{is_held}
use Rattle.tb_board.proofs.BlockedTasks.{any_hit}
use Rattle.tb_board.proofs.LookingAround.{free_if, free_itself, free_so_far, held_if, no_hit}
use Rattle.tb_board.proofs.blocked.holds_another.Goals as goal
use Rattle.tb_board.proofs.blocked.holds_another.Goals.{else-other-place-via-then-other-place+else-waits_for, else-other-place-via-else-other-place}

pub returns-then-waits_for : goal.returns-then-waits_for
returns-then-waits_for c =
    let ts = c.args.tasks.now in
    let place = c.args.place in
    let other = c.loop-other.other in
    let t = c.get.result.now in
    let stands : t ≡ get_or ts other t = subst (λ (u : Task). u ≡ get_or ts other u) (sym c.get.ensures) c.index-tasks-other.is in
    let apart : (other == place) ≡ false = ne_eqb other place (λ same. omega (arith, same, c.if-other-place.true)) in
    let held = held_if ts c.args.id place other t c.loop-other-test.true stands apart (sym c.waits_for.ensures ∙ c.if-waits_for.true) in
    sym (any_hit (is_held ts c.args.id place) 0 (length ts) other (omega arith) (omega (arith, c.loop-other-test.true)) held)

pub loop-other-preserved : goal.loop-other-preserved
loop-other-preserved c =
    let ts = c.args.tasks.now in
    let id = c.args.id in
    let place = c.args.place in
    let other = c.loop-other.other in
    let now : is_held ts id place other ≡ false =
    elim c.else-other-place.branch [
      | else-other-place-via-then-other-place+else-waits_for w ↦
          let t = w.get.result.now in
          let stands : t ≡ get_or ts other t = subst (λ (u : Task). u ≡ get_or ts other u) (sym w.get.ensures) w.index-tasks-other.is in
          free_if ts id place other t c.loop-other-test.true stands (sym w.waits_for.ensures ∙ w.if-waits_for.false)
      | else-other-place-via-else-other-place w ↦ free_itself ts id place other (omega (arith, w.if-other-place.false))
    ] in
    λ k before. free_so_far (is_held ts id place) other k before c.loop-other.invariant now

pub returns : goal.returns
returns c = sym (no_hit (is_held c.args.tasks.now c.args.id c.args.place) 0 (length c.args.tasks.now) (λ k from to. c.loop-other.invariant k (omega (arith, to, c.loop-other-test.false))))
