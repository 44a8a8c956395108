use Rattle.std.proofs.Common.{◌+◌}
use Rattle.sqlite.specs.Held.{state}
use Rattle.tb_lookup.proofs.Standing.{before_then}
use Rattle.tb_keeper.proofs.SoundSteps.{entries_sound, entry_kept, entry_unsound}
use Rattle.tb_keeper.proofs.sound_histories.are_sound.Goals as goal

pub loop-row-preserved : goal.loop-row-preserved
loop-row-preserved g c =
    let start = state g.S.Store c.args.conn.now in
    let before = state g.S.Store c.loop-row.conn in
    let after = state g.S.Store c.is_sound_entry.new.conn in
    let was = c.loop-row.invariant in
    let here = c.in_ok-sound.ensures in
    record {
      idle = here.idle;
      same = before_then start before after was.same here.same;
      each = entry_kept start before after c.args.tasks c.args.rows.now c.loop-row.row-index c.row-item.result c.in_ok-sound.sound was.same here.same c.loop-row-test.true c.row-item.is here.tells c.if-not-sound.false was.each;
    }

pub returns-then-not-sound-clause-tells : goal.returns-then-not-sound-clause-tells
returns-then-not-sound-clause-tells g c =
    let start = state g.S.Store c.args.conn.now in
    let before = state g.S.Store c.loop-row.conn in
    let after = state g.S.Store c.is_sound_entry.new.conn in
    let here = c.in_ok-sound.ensures in
    entry_unsound start before after c.args.tasks c.args.rows.now c.loop-row.row-index c.row-item.result c.in_ok-sound.sound c.loop-row.invariant.same here.same c.loop-row-test.true c.row-item.is here.tells (c.args.before + 1) c.if-not-sound.true

pub returns-clause-tells : goal.returns-clause-tells
returns-clause-tells g c =
    entries_sound (state g.S.Store c.args.conn.now) (state g.S.Store c.loop-row.conn) c.args.tasks c.args.rows.now c.loop-row.row-index (c.args.before + 1) c.loop-row-test.false (c.are_numbered_after.ensures.0 c.if-not-are_numbered_after.false) c.loop-row.invariant.each
