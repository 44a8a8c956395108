use Rattle.std.proofs.Common.{arith}
use Rattle.sqlite.specs.Held.{state}
use Rattle.sqlite.specs.State.{HasCleanDisk}
use Rattle.tb_sql_tables.specs.Content.{nothing}
use Rattle.tb_sql_tables.specs.Standing.{HasNoTables, IsOldContent}
use Rattle.tb_sql_tables.specs.Statements.{Turns}
use Rattle.tb_sql_tables.proofs.Changing.{commit_kept_then, turns_then, where_ok}
use Rattle.tb_sql.specs.Changes.{with_board, with_person, with_role}
use Rattle.tb_sql.proofs.Migrated.{at_err, turned_kept, where_err}
use Rattle.tb_sql.proofs.first_version.put_first.Goals as goal

pub returns-clause-made : goal.returns-clause-made
returns-clause-made g c clean inside =
    let a = state g.S.Store c.args.tx.now.conn.now in
    let b = state g.S.Store c.create_old.new.tx.conn.now in
    let d = state g.S.Store c.insert_person.new.tx.conn.now in
    let e = state g.S.Store c.insert_board.new.tx.conn.now in
    let f = state g.S.Store c.insert_role.new.tx.conn.now in
    let person = with_person c.args.person.now nothing in
    let board = with_board c.args.board.now person in
    let clean_e : HasCleanDisk e = omega (arith, c.insert_role.ensures.survives.clean) in
    let clean_d : HasCleanDisk d = omega (arith, clean_e, c.insert_board.ensures.survives.clean) in
    let clean_b : HasCleanDisk b = omega (arith, clean_d, c.insert_person.ensures.survives.clean) in
    let one : Turns HasNoTables (IsOldContent nothing) a b = c.in_ok-create_old.ensures.made clean_b inside in
    let two : Turns (IsOldContent nothing) (IsOldContent person) b d = c.in_ok-insert_person.ensures.made clean_d one.shown.mode nothing in
    let three : Turns (IsOldContent person) (IsOldContent board) d e = c.in_ok-insert_board.ensures.made clean_e two.shown.mode person in
    let both = turns_then HasNoTables (IsOldContent person) (IsOldContent board) a d e (turns_then HasNoTables (IsOldContent nothing) (IsOldContent person) a b d one two) three in
    where_ok c.insert_role.result (λ last. turns_then HasNoTables (IsOldContent board) (IsOldContent (with_role c.args.role.now board)) a e f both (last board)) (c.insert_role.ensures.made clean three.shown.mode)

pub returns-in_err-insert_board-clause-kept : goal.returns-in_err-insert_board-clause-kept
returns-in_err-insert_board-clause-kept g c clean inside =
    let a = state g.S.Store c.args.tx.now.conn.now in
    let b = state g.S.Store c.create_old.new.tx.conn.now in
    let d = state g.S.Store c.insert_person.new.tx.conn.now in
    let e = state g.S.Store c.insert_board.new.tx.conn.now in
    let person = with_person c.args.person.now nothing in
    let clean_d : HasCleanDisk d = omega (arith, c.insert_board.ensures.survives.clean) in
    let clean_b : HasCleanDisk b = omega (arith, clean_d, c.insert_person.ensures.survives.clean) in
    let one : Turns HasNoTables (IsOldContent nothing) a b = c.in_ok-create_old.ensures.made clean_b inside in
    let two : Turns (IsOldContent nothing) (IsOldContent person) b d = c.in_ok-insert_person.ensures.made clean_d one.shown.mode nothing in
    let both = turns_then HasNoTables (IsOldContent nothing) (IsOldContent person) a b d one two in
    at_err _ (commit_kept_then a d e (turned_kept _ _ a d both) (c.in_err-insert_board.ensures.kept clean two.shown.mode))

pub returns-clause-kept : goal.returns-clause-kept
returns-clause-kept g c clean inside =
    let a = state g.S.Store c.args.tx.now.conn.now in
    let b = state g.S.Store c.create_old.new.tx.conn.now in
    let d = state g.S.Store c.insert_person.new.tx.conn.now in
    let e = state g.S.Store c.insert_board.new.tx.conn.now in
    let f = state g.S.Store c.insert_role.new.tx.conn.now in
    let person = with_person c.args.person.now nothing in
    let board = with_board c.args.board.now person in
    let clean_e : HasCleanDisk e = omega (arith, c.insert_role.ensures.survives.clean) in
    let clean_d : HasCleanDisk d = omega (arith, clean_e, c.insert_board.ensures.survives.clean) in
    let clean_b : HasCleanDisk b = omega (arith, clean_d, c.insert_person.ensures.survives.clean) in
    let one : Turns HasNoTables (IsOldContent nothing) a b = c.in_ok-create_old.ensures.made clean_b inside in
    let two : Turns (IsOldContent nothing) (IsOldContent person) b d = c.in_ok-insert_person.ensures.made clean_d one.shown.mode nothing in
    let three : Turns (IsOldContent person) (IsOldContent board) d e = c.in_ok-insert_board.ensures.made clean_e two.shown.mode person in
    let all = turns_then HasNoTables (IsOldContent person) (IsOldContent board) a d e (turns_then HasNoTables (IsOldContent nothing) (IsOldContent person) a b d one two) three in
    where_err c.insert_role.result (commit_kept_then a e f (turned_kept _ _ a e all)) (c.insert_role.ensures.kept clean three.shown.mode)
