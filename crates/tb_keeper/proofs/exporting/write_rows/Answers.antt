use Rattle.std.proofs.Common.{◌+◌, ◌∷◌, [], false, true}
use Rattle.std.specs.String.{string_bytes}
use Rattle.sqlite.specs.Held.{state}
use Rattle.tb_lookup.proofs.Standing.{before_then}
use Rattle.tb_keeper.proofs.ExportedBoards.{err_by}
use Rattle.tb_keeper.proofs.ExportedRows.{all_state, as_before, begun_state, end_front_state, front_now, front_state, more_state, moved_front_state, moved_state}
use Rattle.tb_keeper.proofs.exporting.write_rows.Goals as goal

pub loop-behind-init : goal.loop-behind-init
loop-behind-init g c = record {
  idle = c.requires;
  same = as_before (state g.S.Store c.args.conn.now);
  out = rw c.in_ok-pending.ensures.ok (begun_state (state g.S.Store c.args.conn.now) c.args.notes.now c.args.at c.args.board (g.W.Write.contents c.args.writer.now));
}

pub returns-in_err-pending-clause-front : goal.returns-in_err-pending-clause-front
returns-in_err-pending-clause-front g c =
    let start = state g.S.Store c.args.conn.now in
    let written = g.W.Write.contents c.args.writer.now in
    err_by _ (front_now start start c.args.notes.now c.args.board c.args.at 0 true written written (91 ∷ 10 ∷ []) (begun_state start c.args.notes.now c.args.at c.args.board written))

pub returns-in_err-row-clause-front : goal.returns-in_err-row-clause-front
returns-in_err-row-clause-front g c =
    let l = c.loop-behind in
    err_by _ (front_state (state g.S.Store c.args.conn.now) (state g.S.Store l.conn) c.args.notes.now c.args.board c.args.at l.behind l.is_first
    (g.W.Write.contents c.args.writer.now) (g.W.Write.contents l.writer) (string_bytes l.pending) l.invariant.out (state g.S.Store c.find_row.new.conn) l.invariant.same l.invariant.idle c.in_err-row.ensures.same)

pub returns-in_err-push_end-clause-front : goal.returns-in_err-push_end-clause-front
returns-in_err-push_end-clause-front g c =
    let l = c.loop-behind in
    err_by _ (front_state (state g.S.Store c.args.conn.now) (state g.S.Store l.conn) c.args.notes.now c.args.board c.args.at l.behind l.is_first
    (g.W.Write.contents c.args.writer.now) (g.W.Write.contents l.writer) (string_bytes l.pending) l.invariant.out (state g.S.Store c.find_row.new.conn) l.invariant.same l.invariant.idle c.in_ok-row.ensures.same)

pub returns-in_err-push_row-clause-front : goal.returns-in_err-push_row-clause-front
returns-in_err-push_row-clause-front g c =
    let l = c.loop-behind in
    err_by _ (front_state (state g.S.Store c.args.conn.now) (state g.S.Store l.conn) c.args.notes.now c.args.board c.args.at l.behind l.is_first
    (g.W.Write.contents c.args.writer.now) (g.W.Write.contents l.writer) (string_bytes l.pending) l.invariant.out (state g.S.Store c.find_row.new.conn) l.invariant.same l.invariant.idle c.in_ok-row.ensures.same)

pub returns-in_default-clause-told : goal.returns-in_default-clause-told
returns-in_default-clause-told g c =
    let l = c.loop-behind in
    let here = c.in_ok-row.ensures in
    all_state (state g.S.Store c.args.conn.now) (state g.S.Store l.conn) c.args.notes.now c.args.board c.args.at l.behind l.is_first
    (g.W.Write.contents c.args.writer.now) (g.W.Write.contents l.writer) (string_bytes l.pending) l.invariant.out (state g.S.Store c.find_row.new.conn) l.invariant.same l.invariant.idle here.same
    (rw c.in_default.is at here.found) (g.W.Write.contents c.write_text.new.writer) (rw (c.as_str.ensures.value, c.in_ok-push_end.ensures) at c.in_ok-write_text.ensures.told)

pub returns-in_err-write_text-clause-front : goal.returns-in_err-write_text-clause-front
returns-in_err-write_text-clause-front g c =
    let l = c.loop-behind in
    let here = c.in_ok-row.ensures in
    err_by _ (end_front_state (state g.S.Store c.args.conn.now) (state g.S.Store l.conn) c.args.notes.now c.args.board c.args.at l.behind l.is_first
    (g.W.Write.contents c.args.writer.now) (g.W.Write.contents l.writer) (string_bytes l.pending) l.invariant.out (state g.S.Store c.find_row.new.conn) l.invariant.same l.invariant.idle here.same
    (rw c.in_default.is at here.found) (g.W.Write.contents c.write_text.new.writer) (rw (c.as_str.ensures.value, c.in_ok-push_end.ensures) at c.in_err-write_text.ensures.front))

pub returns-in_err-write_long-clause-front : goal.returns-in_err-write_long-clause-front
returns-in_err-write_long-clause-front g c =
    let l = c.loop-behind in
    let here = c.in_ok-row.ensures in
    let start = state g.S.Store c.args.conn.now in
    let after = state g.S.Store c.find_row.new.conn in
    let more = more_state start (state g.S.Store l.conn) c.args.notes.now c.args.board c.args.at l.behind l.is_first
    (g.W.Write.contents c.args.writer.now) (g.W.Write.contents l.writer) (string_bytes l.pending) l.invariant.out after l.invariant.same l.invariant.idle here.same c.in-Some.row (rw c.in-Some.is at here.found) in
    err_by _ (moved_front_state start after c.args.notes.now c.args.board c.args.at (l.behind + 1) false (g.W.Write.contents c.args.writer.now) (g.W.Write.contents l.writer) _ more
    (g.W.Write.contents c.write_long.new.writer) (rw c.in_ok-push_row.ensures.put at c.in_err-write_long.ensures.front))

pub loop-behind-preserved : goal.loop-behind-preserved
loop-behind-preserved g c =
    let start = state g.S.Store c.args.conn.now in
    let l = c.loop-behind in
    let before = state g.S.Store l.conn in
    let after = state g.S.Store c.find_row.new.conn in
    let here = c.in_ok-row.ensures in
    let more = more_state start before c.args.notes.now c.args.board c.args.at l.behind l.is_first
    (g.W.Write.contents c.args.writer.now) (g.W.Write.contents l.writer) (string_bytes l.pending) l.invariant.out after l.invariant.same l.invariant.idle here.same c.in-Some.row (rw c.in-Some.is at here.found) in
    record {
      idle = here.idle l.invariant.idle;
      same = before_then start before after l.invariant.same here.same;
      out = moved_state start after c.args.notes.now c.args.board c.args.at (l.behind + 1) false (g.W.Write.contents c.args.writer.now) (g.W.Write.contents l.writer) _ more
          (g.W.Write.contents c.write_long.new.writer) (string_bytes c.write_long.new.pending) (rw c.in_ok-push_row.ensures.put at c.in_ok-write_long.ensures.told);
    }

pub returns-clause-front : goal.returns-clause-front
returns-clause-front g c =
    let l = c.loop-behind in
    front_now (state g.S.Store c.args.conn.now) (state g.S.Store l.conn) c.args.notes.now c.args.board c.args.at l.behind l.is_first
    (g.W.Write.contents c.args.writer.now) (g.W.Write.contents l.writer) (string_bytes l.pending) l.invariant.out
