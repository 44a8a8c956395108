use Rattle.sqlite.specs.Held.{state}
use Rattle.tb_headline.proofs.Left.{clean_before, honest, session}
use Rattle.tb_headline.proofs.session.run.Goals as goal

pub returns-clause-session : goal.returns-clause-session
returns-clause-session g c clean s at =
    session _ _ _ _ _ clean s _ _ (c.run.ensures.told (honest (state g.S.Store c.run.new.self.conn) clean) s at.held) (c.run.ensures.stands s at.held at.only)

pub returns-clause-honest : goal.returns-clause-honest
returns-clause-honest g c =
    clean_before (state g.S.Store c.args.desk.now.conn) (state g.S.Store c.run.new.self.conn) c.run.ensures.honest
