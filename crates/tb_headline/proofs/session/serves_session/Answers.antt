use Rattle.sqlite.specs.Held.{state}
use Rattle.tb_headline.proofs.Left.{honest}
use Rattle.tb_headline.proofs.Played.{cut, played}
use Rattle.tb_headline.proofs.session.serves_session.Goals as goal

pub returns-clause-played : goal.returns-clause-played
returns-clause-played g c site s done talks later plays clean =
    let keep = c.args.desk.now in
    let d = state g.S.Store keep.conn in
    played site keep.failed keep.people keep.boards keep.cache.entries d clean s done talks later (plays (honest d clean))

pub returns-clause-cut : goal.returns-clause-cut
returns-clause-cut g c site s done talks later stopped clean =
    let keep = c.args.desk.now in
    let d = state g.S.Store keep.conn in
    cut site keep.failed keep.people keep.boards keep.cache.entries d clean s done talks later (stopped (honest d clean))
