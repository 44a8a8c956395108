use Rattle.std.proofs.Common.{◌≡◌, ◌≤◌, ◌*◌, ◌+◌, subst, arith, rules}
use Rattle.std.proofs.lemmas.Result.{IfOk-weaker}
use Rattle.sqlite.specs.Held.{state}
use Rattle.tb_lookup.specs.Reopening.{OfContent}
use Rattle.tb_lookup.proofs.Standing.{before_then}
use Rattle.tb_keeper.proofs.SoundHistories.{none_sound, IsSoundUpTo}
use Rattle.tb_keeper.proofs.SoundSteps.{step_ends, step_kept, step_unsound}
use Rattle.tb_keeper.proofs.sound_histories.is_sound_history.Goals as goal

pub loop-step-init : goal.loop-step-init
loop-step-init g c = record {
  idle = search rules;
  same = search rules;
  sound = λ clean content stands. none_sound content c.args.board c.args.tasks;
}

pub loop-step-preserved : goal.loop-step-preserved
loop-step-preserved g c =
    let start = state g.S.Store c.args.conn.now in
    let before = state g.S.Store c.loop-step.conn in
    let mid = state g.S.Store c.entry_rows_between.new.conn in
    let after = state g.S.Store c.are_sound.new.conn in
    let was = c.loop-step.invariant in
    let found = c.in_ok-rows.ensures in
    let here = c.in_ok-sound.ensures in
    let count = c.loop-step.step * 1000 in
    let few : count ≤ 4294967295 = omega arith in
    let next : count + 1000 ≡ (c.loop-step.step + 1) * 1000 = omega arith in
    record {
      idle = here.idle;
      same = before_then start mid after (before_then start before mid was.same found.same) here.same;
      sound = subst (λ n. OfContent start after (λ content. IsSoundUpTo content c.args.board c.args.tasks n)) next
          (step_kept start before mid after c.args.board c.args.tasks count c.saturating_add-last.result c.in_ok-rows.rows c.in_ok-sound.sound was.same found.same here.same few c.saturating_add-last.ensures found.found
          (rw c.as_slice-rows.ensures at here.tells) c.is_full_step-full.result (rw c.as_slice-rows.ensures at c.is_full_step-full.ensures) c.if-not-sound.false c.if-not-full.false was.sound);
    }

pub returns-then-not-sound-clause-tells : goal.returns-then-not-sound-clause-tells
returns-then-not-sound-clause-tells g c =
    let start = state g.S.Store c.args.conn.now in
    let before = state g.S.Store c.loop-step.conn in
    let mid = state g.S.Store c.entry_rows_between.new.conn in
    let after = state g.S.Store c.are_sound.new.conn in
    let found = c.in_ok-rows.ensures in
    let here = c.in_ok-sound.ensures in
    let count = c.loop-step.step * 1000 in
    let few : count ≤ 4294967295 = omega arith in
    step_unsound start before mid after c.args.board c.args.tasks count c.saturating_add-last.result c.in_ok-rows.rows c.in_ok-sound.sound c.loop-step.invariant.same found.same here.same few c.saturating_add-last.ensures found.found
    (rw c.as_slice-rows.ensures at here.tells) c.if-not-sound.true

pub returns-then-not-full-clause-tells : goal.returns-then-not-full-clause-tells
returns-then-not-full-clause-tells g c =
    let start = state g.S.Store c.args.conn.now in
    let before = state g.S.Store c.loop-step.conn in
    let mid = state g.S.Store c.entry_rows_between.new.conn in
    let after = state g.S.Store c.are_sound.new.conn in
    let found = c.in_ok-rows.ensures in
    let here = c.in_ok-sound.ensures in
    let count = c.loop-step.step * 1000 in
    let few : count ≤ 4294967295 = omega arith in
    IfOk-weaker c.has_no_others.result _ _
    (λ none others.
    step_ends start before mid after c.args.board c.args.tasks count c.saturating_add-last.result c.in_ok-rows.rows c.in_ok-sound.sound c.loop-step.invariant.same found.same here.same few c.saturating_add-last.ensures found.found
    (rw c.as_slice-rows.ensures at here.tells) c.is_full_step-full.result (rw c.as_slice-rows.ensures at c.is_full_step-full.ensures) (state g.S.Store c.has_no_others.new.conn) c.has_no_others.ensures.same c.if-not-sound.false c.if-not-full.true c.loop-step.invariant.sound none others)
    c.has_no_others.ensures.tells
