use Rattle.tb_server.proofs.server.at_moment.Goals as goal

pub returns-in-Opened-clause-asked : goal.returns-in-Opened-clause-asked
returns-in-Opened-clause-asked g c = g.C.Clock.unasked c.args.clock.now

pub returns-in-Came-clause-asked : goal.returns-in-Came-clause-asked
returns-in-Came-clause-asked g c = g.C.Clock.unasked c.args.clock.now

pub returns-in-Went-clause-asked : goal.returns-in-Went-clause-asked
returns-in-Went-clause-asked g c = g.C.Clock.unasked c.args.clock.now
