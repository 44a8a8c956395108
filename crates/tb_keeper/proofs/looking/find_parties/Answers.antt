use Rattle.sqlite.specs.Held.{state}
use Rattle.tb_lookup.proofs.Standing.{stored_again}
use Rattle.tb_keeper.proofs.KnownPeople.{known_first}
use Rattle.std.proofs.lemmas.Result.{err_from_is_err_and}
use Rattle.tb_sql_tables.proofs.Failing.{faults_then}
use Rattle.tb_lookup.proofs.Excused.{err_told, later_fails}
use Rattle.tb_lookup.proofs.Standing.{before_then}
use Rattle.tb_keeper.proofs.looking.find_parties.Goals as goal

pub returns-clause-found : goal.returns-clause-found
returns-clause-found g c clean s stored known =
    let old = state g.S.Store c.args.conn.now in
    let mid = state g.S.Store c.find_caller.new.conn in
    let later = state g.S.Store c.find_own.new.conn in
    let clean_later = c.in_ok-other.ensures.same.clean clean in
    let at_mid = stored_again s old mid stored c.in_ok-caller.ensures.same c.in_ok-caller.ensures.idle in
    record {
      caller_is = c.in_ok-caller.ensures.found (c.in_ok-own.ensures.same.clean clean_later) s stored known;
      own_is = c.in_ok-own.ensures.found clean_later s at_mid;
      other_is = c.in_ok-other.ensures.found clean s (stored_again s mid later at_mid c.in_ok-own.ensures.same c.in_ok-own.ensures.idle);
    }

pub returns-in_err-own-clause-people : goal.returns-in_err-own-clause-people
returns-in_err-own-clause-people g c =
    known_first (state g.S.Store c.args.conn.now) (state g.S.Store c.find_caller.new.conn) (state g.S.Store c.find_own.new.conn) c.args.people.now c.find_caller.new.people c.in_ok-caller.ensures.people c.in_err-own.ensures.same.clean

pub returns-in_err-other-clause-people : goal.returns-in_err-other-clause-people
returns-in_err-other-clause-people g c =
    known_first (state g.S.Store c.args.conn.now) (state g.S.Store c.find_caller.new.conn) (state g.S.Store c.find_other.new.conn) c.args.people.now c.find_caller.new.people c.in_ok-caller.ensures.people
    (λ clean. c.in_ok-own.ensures.same.clean (c.in_err-other.ensures.same.clean clean))

pub returns-clause-people : goal.returns-clause-people
returns-clause-people g c =
    known_first (state g.S.Store c.args.conn.now) (state g.S.Store c.find_caller.new.conn) (state g.S.Store c.find_other.new.conn) c.args.people.now c.find_caller.new.people c.in_ok-caller.ensures.people
    (λ clean. c.in_ok-own.ensures.same.clean (c.in_ok-other.ensures.same.clean clean))

pub returns-in_err-caller-clause-excused : goal.returns-in_err-caller-clause-excused
returns-in_err-caller-clause-excused g c is =
    let p = err_from_is_err_and c.from_residual.result c.from_residual.ensures.1 in
    c.in_err-caller.ensures.excused (err_told c.from_residual.result p.0 _ p.1 p.2 is)

pub returns-in_err-own-clause-excused : goal.returns-in_err-own-clause-excused
returns-in_err-own-clause-excused g c is =
    let one = c.in_ok-caller.ensures in
    let two = c.in_err-own.ensures in
    let p = err_from_is_err_and c.from_residual-in_err-own.result c.from_residual-in_err-own.ensures.1 in
    later_fails (state g.S.Store c.args.conn.now) (state g.S.Store c.find_caller.new.conn) (state g.S.Store c.find_own.new.conn) one.same one.idle one.faults two.same.clean two.faults (c.in_err-own.ensures.excused (err_told c.from_residual-in_err-own.result p.0 _ p.1 p.2 is))

pub returns-in_err-own-clause-faults : goal.returns-in_err-own-clause-faults
returns-in_err-own-clause-faults g c =
    faults_then _ (state g.S.Store c.find_caller.new.conn) _ c.in_ok-caller.ensures.faults c.in_err-own.ensures.same.clean c.in_err-own.ensures.faults

pub returns-in_err-other-clause-excused : goal.returns-in_err-other-clause-excused
returns-in_err-other-clause-excused g c is =
    let old = state g.S.Store c.args.conn.now in
    let mid = state g.S.Store c.find_caller.new.conn in
    let later = state g.S.Store c.find_own.new.conn in
    let one = c.in_ok-caller.ensures in
    let two = c.in_ok-own.ensures in
    let three = c.in_err-other.ensures in
    let p = err_from_is_err_and c.from_residual-in_err-other.result c.from_residual-in_err-other.ensures.1 in
    later_fails old later (state g.S.Store c.find_other.new.conn) (before_then old mid later one.same two.same) two.idle (faults_then old mid later one.faults two.same.clean two.faults) three.same.clean three.faults (c.in_err-other.ensures.excused (err_told c.from_residual-in_err-other.result p.0 _ p.1 p.2 is))

pub returns-in_err-other-clause-faults : goal.returns-in_err-other-clause-faults
returns-in_err-other-clause-faults g c =
    let old = state g.S.Store c.args.conn.now in
    let mid = state g.S.Store c.find_caller.new.conn in
    let later = state g.S.Store c.find_own.new.conn in
    let one = c.in_ok-caller.ensures in
    let two = c.in_ok-own.ensures in
    let three = c.in_err-other.ensures in
    faults_then old later _ (faults_then old mid later one.faults two.same.clean two.faults) three.same.clean three.faults

pub returns-clause-faults : goal.returns-clause-faults
returns-clause-faults g c =
    let old = state g.S.Store c.args.conn.now in
    let mid = state g.S.Store c.find_caller.new.conn in
    let later = state g.S.Store c.find_own.new.conn in
    let one = c.in_ok-caller.ensures in
    let two = c.in_ok-own.ensures in
    let three = c.in_ok-other.ensures in
    faults_then old later _ (faults_then old mid later one.faults two.same.clean two.faults) three.same.clean three.faults
