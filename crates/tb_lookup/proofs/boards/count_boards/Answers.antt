use Rattle.std.proofs.Common.{◌≡◌, ◌∙◌, Err, sym, ap, true, false, arith, length}
use Rattle.std.proofs.lemmas.Result.{err_from_is_err_and}
use Rattle.sqlite.specs.Held.{state}
use Rattle.tb_calls.specs.Call.{State}
use Rattle.tb_sql.specs.declared.store.StoreFault.TheVariants.{Store}
use Rattle.tb_sql_tables.specs.Content.{IsContent, Stands}
use Rattle.tb_sql_tables.proofs.Failing.{faults_then}
use Rattle.tb_lookup.specs.Reopening.{OfState}
use Rattle.tb_lookup.proofs.Standing.{before_then, fails_then, stood}
use Rattle.tb_lookup.proofs.Within.{IsWithin}
use Rattle.tb_lookup.proofs.Counting.{higher, lower}
use Rattle.tb_lookup.proofs.StoredBoards.{board_within}
use Rattle.tb_lookup.proofs.boards.count_boards.Goals as goal

pub loop-low-preserved-then-branch : goal.loop-low-preserved-then-branch
loop-low-preserved-then-branch g c =
    let start = state g.S.Store c.args.conn.now in
    let before = state g.S.Store c.loop-low.conn in
    let after = state g.S.Store c.has_board_at.new.conn in
    let middle = c.middle_of-middle.result in
    let i = c.loop-low.invariant in
    let here = c.in_ok-has_board_at.ensures in
    let there : OfState before after (λ s. IsWithin middle (length s.world.boards) true) = board_within before after middle true (omega (arith, c.middle_of-middle.ensures.0)) (rw c.if-branch.true at here.found) in
    record {
      idle = here.idle;
      same = before_then start before after i.same here.same;
      faults = faults_then start before after i.faults here.same.clean here.faults;
      apart = c.middle_of-middle.ensures.1;
      most = i.most;
      between = higher (λ (s : State). length s.world.boards) start before after c.loop-low.low c.loop-low.above middle i.same i.idle here.same i.between there;
    }

pub loop-low-preserved : goal.loop-low-preserved
loop-low-preserved g c =
    let start = state g.S.Store c.args.conn.now in
    let before = state g.S.Store c.loop-low.conn in
    let after = state g.S.Store c.has_board_at.new.conn in
    let middle = c.middle_of-middle.result in
    let i = c.loop-low.invariant in
    let here = c.in_ok-has_board_at.ensures in
    let there : OfState before after (λ s. IsWithin middle (length s.world.boards) false) = board_within before after middle false (omega (arith, c.middle_of-middle.ensures.0)) (rw c.if-branch.false at here.found) in
    record {
      idle = here.idle;
      same = before_then start before after i.same here.same;
      faults = faults_then start before after i.faults here.same.clean here.faults;
      apart = c.middle_of-middle.ensures.0;
      most = omega (arith, i.most, c.middle_of-middle.ensures.1);
      between = lower (λ (s : State). length s.world.boards) start before after c.loop-low.low c.loop-low.above middle i.same i.idle here.same i.between there;
    }

pub returns-in_err-has_board_at-clause-excused : goal.returns-in_err-has_board_at-clause-excused
returns-in_err-has_board_at-clause-excused g c is =
    let start = state g.S.Store c.args.conn.now in
    let before = state g.S.Store c.loop-low.conn in
    let after = state g.S.Store c.has_board_at.new.conn in
    let i = c.loop-low.invariant in
    let here = c.in_err-has_board_at.ensures in
    let p = err_from_is_err_and c.from_residual.result c.from_residual.ensures.1 in
    let both = sym p.1 ∙ is in
    let failed : p.0 ≡ Store = cc in
    fails_then (λ content. Stands content start) (λ content. IsContent content before.now) start before after (λ fine is_open content stands. ((stood content start before stands i.same).seen fine is_open).0) i.faults here.same.clean here.faults (here.excused (ap Err (sym p.2 ∙ failed)))

pub returns-in_err-has_board_at-clause-faults : goal.returns-in_err-has_board_at-clause-faults
returns-in_err-has_board_at-clause-faults g c =
    let here = c.in_err-has_board_at.ensures in
    faults_then _ (state g.S.Store c.loop-low.conn) _ c.loop-low.invariant.faults here.same.clean here.faults
