use Rattle.std.proofs.Common.{rules}
use Rattle.sqlite.specs.Held.{state}
use Rattle.tb_calls.specs.Roles.{board_role}
use Rattle.tb_lookup.proofs.Standing.{before_then}
use Rattle.tb_lookup.specs.Named.{IsTitled}
use Rattle.tb_lookup.proofs.Gathered.{gathered}
use Rattle.tb_lookup.proofs.boards_of.with_titles.Goals as goal

pub loop-role-preserved : goal.loop-role-preserved
loop-role-preserved g c =
    let start = state g.S.Store c.args.conn.now in
    let before = state g.S.Store c.loop-role.conn in
    let after = state g.S.Store c.board_role.new.conn in
    let i = c.loop-role.invariant in
    let here = c.in_ok-board.ensures in
    record {
      idle = here.idle;
      same = before_then start before after i.same here.same;
      boards = rw c.in_ok-put.ensures (gathered (λ s. board_role s.world) start before after i.same i.idle here.same (λ s. IsTitled s.world) (λ s role board named. named.is)
          c.args.roles.now c.loop-role.role-index _ c.loop-role.boards c.in_ok-board.board (search rules) (search rules) i.boards here.found);
    }
