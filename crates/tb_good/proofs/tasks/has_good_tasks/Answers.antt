use Rattle.std.proofs.Common.{◌≡◌, ◌↔◌, Bool, IsTrue, List, nat_cmp, nat_eq}
use Rattle.std.specs.Bool.{Decides}
use Rattle.std.specs.List.{AllByRecursion, IsDistinct, list_all}
use Rattle.std.specs.Ordering.{eq_by_cmp}
use Rattle.std.proofs.lemmas.Result.{IfOk-weaker}
use Rattle.tb_task.specs.declared.task.Task.{Task}
use Rattle.tb_board.specs.Tasks.{ids}
use Rattle.tb_board.specs.Good.{IsSound}
use Rattle.tb_good.specs.Parts.{is_sound}
use Rattle.tb_good.proofs.Repeats.{numbers_tell}
use Rattle.tb_good.proofs.Parts.{sound_tells}
use Rattle.tb_good.proofs.Telling.{last_tells, part_fails}
use Rattle.tb_good.proofs.EachItem.{answer_tells}
use Rattle.tb_good.proofs.tasks.has_good_tasks.Goals as goal

sound : (ts : List Task) (r : Bool) → r ≡ list_all is_sound ts → Decides r (AllByRecursion IsSound ts)
sound ts r is = answer_tells is_sound IsSound sound_tells ts r is

pub returns-then-not-are_sound : goal.returns-then-not-are_sound
returns-then-not-are_sound c =
    part_fails c.are_sound.result c.if-not-are_sound.true (sound c.args.board.now.tasks c.are_sound.result (rw c.as_slice-tasks.ensures at c.are_sound.ensures)) (λ good. good.sound)

pub returns : goal.returns
returns c =
    let ts = c.args.board.now.tasks in
    last_tells c.are_distinct.result
    (λ distinct. record {
      few = rw c.as_slice-tasks.ensures at c.if-tasks-gt-MOST_TASKS.false;
      distinct = distinct;
      sound = (sound ts c.are_sound.result (rw c.as_slice-tasks.ensures at c.are_sound.ensures)).0 c.if-not-are_sound.false;
    })
    (λ good. good.distinct)
    (IfOk-weaker c.are_distinct.result (λ r. IsTrue r ↔ IsDistinct (eq_by_cmp nat_cmp) (ids ts)) (λ r. IsTrue r ↔ IsDistinct nat_eq (ids ts)) (numbers_tell (ids ts))
    (rw (c.as_slice.ensures.value, c.in_ok-ids.ensures, c.as_slice-tasks.ensures) at c.are_distinct.ensures))
