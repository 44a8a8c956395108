use Rattle.sqlite.specs.Held.{state}
use Rattle.tb_headline.proofs.Left.{leaves}
use Rattle.tb_headline.proofs.session.leaves_rows.Goals as goal

pub returns : goal.returns
returns g c clean s calls answered stands =
    let keep = c.args.desk.now in
    leaves keep.failed keep.people keep.boards keep.cache.entries (state g.S.Store keep.conn) clean s calls answered stands
