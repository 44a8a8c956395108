use Rattle.std.proofs.Common.{◌+◌, ◌-◌, ◌<◌, length, arith, sym, ◌∙◌, ap, refl, length-append}
use Rattle.std.proofs.lemmas.List.{get_or_append_left}
use Rattle.tb_board.proofs.Awake.{stands_at}
use Rattle.tb_board.specs.Numbers.{free_id}
use Rattle.tb_board.specs.declared.board.Board.{Board}
use Rattle.tb_sweep.proofs.Adding.{added_one}
use Rattle.tb_sweep.proofs.growing.with_instances.Goals as goal

pub loop-offset-preserved : goal.loop-offset-preserved
loop-offset-preserved c =
    let b = c.loop-offset.growing.draft.board in
    let within : c.args.place < length b.tasks = omega (arith, c.loop-offset.invariant.size, c.requires.place) in
    let there = stands_at b.tasks c.args.place within in
    let is = c.in_ok-growing.ensures.added there.0 there.1 in
    let tasks = ap (λ (later : Board). later.tasks) is in
    record {
      growing = c.in_ok-growing.ensures.growing;
      size = rw tasks (omega (arith, length-append b.tasks, c.loop-offset.invariant.size));
      template = λ t. rw tasks (get_or_append_left b.tasks _ t c.args.place within ∙ c.loop-offset.invariant.template t);
      same = λ t at.
          let here = at ∙ sym (c.loop-offset.invariant.template t) in
          rw (c.in_ok-growing.ensures.added t here)
          (added_one c.args.at t t _ (c.args.first + c.loop-offset.offset) (c.args.number - c.loop-offset.offset) (c.args.number - (c.loop-offset.offset + 1)) (free_id b) b _ _ (omega arith) (omega arith)
          refl refl refl (c.loop-offset.invariant.same t at));
      follows = λ start h. c.in_ok-growing.ensures.follows start (c.loop-offset.invariant.follows start h);
    }
