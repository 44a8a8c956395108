use Rattle.sqlite.specs.Held.{state}
use Rattle.tb_headline.proofs.Left.{clean_before, honest}
use Rattle.tb_headline.proofs.Played.{cut, on_err, on_ok, played}
use Rattle.tb_headline.proofs.session.serve_connections.Goals as goal

pub returns-clause-played : goal.returns-clause-played
returns-clause-played g c clean s at =
    on_ok c.play.result _ _ (played c.args.paths.now.site _ _ _ _ _ clean s _ _ _)
    (c.play.ensures.plays (honest (state g.S.Store c.play.new.desk.conn) clean) s at.held at.only)

pub returns-clause-cut : goal.returns-clause-cut
returns-clause-cut g c clean s at =
    on_err c.play.result _ _ (cut c.args.paths.now.site _ _ _ _ _ clean s _ _ _)
    (c.play.ensures.stopped (honest (state g.S.Store c.play.new.desk.conn) clean) s at.held at.only)

pub returns-clause-honest : goal.returns-clause-honest
returns-clause-honest g c =
    clean_before (state g.S.Store c.args.desk.now.conn) (state g.S.Store c.play.new.desk.conn) c.play.ensures.honest
