use Rattle.std.proofs.Common.{◌≡◌, ◌∙◌, Some, ap, arith, length, rules}
use Rattle.tb_rows.specs.Rows.{horizon_row}
use Rattle.tb_keeper.proofs.KnownAhead.{same_tasks, tells_known}
use Rattle.tb_keeper.proofs.auditing.compare.Goals as goal

pub returns-in-Ok-is_as_stored-clause-size : goal.returns-in-Ok-is_as_stored-clause-size
returns-in-Ok-is_as_stored-clause-size c b read =
    let same = same_tasks c.args.row.now (Some c.known_horizon-known.result) (Some (horizon_row b)) c.args.tasks.now c.args.gone.now c.in-Ok.board b c.in-Ok.ensures read in
    let size : c.len.result ≡ length c.in-Ok.board.tasks = first_of (search rules, grind arith) in
    size ∙ ap length same

pub returns-in-Ok-is_as_stored-clause-tells : goal.returns-in-Ok-is_as_stored-clause-tells
returns-in-Ok-is_as_stored-clause-tells c b read there =
    tells_known c.args.row.now c.args.horizon c.args.tasks.now c.args.gone.now c.args.links.now c.args.instances.now c.in-Ok.board b c.in-Ok-is_as_stored.as_stored
    (rw c.known_horizon-known.ensures at c.in-Ok.ensures) read there c.in-Ok-is_as_stored.ensures

pub returns-in-Ok-is_as_stored-clause-whole : goal.returns-in-Ok-is_as_stored-clause-whole
returns-in-Ok-is_as_stored-clause-whole c = record {
  board = c.in-Ok.board;
  read = rw c.known_horizon-known.ensures at c.in-Ok.ensures;
  good = c.in_ok-hold_board.ensures.good;
  size = first_of (search rules, grind arith);
  tells = c.in-Ok-is_as_stored.ensures;
}
