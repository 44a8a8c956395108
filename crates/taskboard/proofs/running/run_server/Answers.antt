use Rattle.std.proofs.Common.{Err, Ok, ap, sym}
use Rattle.sqlite.specs.Held.{state}
use Rattle.tb_event_loop.specs.Deeds.{done_in}
use Rattle.taskboard.proofs.Sessions.{run_of}
use Rattle.taskboard.proofs.running.run_server.Goals as goal

pub returns-in-Ok-clause-run : goal.returns-in-Ok-clause-run
returns-in-Ok-clause-run g c =
    let server = c.args.server in
    let end = c.serve-end.new.service in
    let after = c.in-Ok.ensures.after in (
      end,
      sym c.into_desk-desk.ensures,
      after.0,
      run_of _ {E = Unit {0}} g.C.Clock.gives server.clock end.clock server.paths.site end.paths.site server.peers.items end.peers.items _ (Ok tt)
          (done_in after.0.deeds) (λ keep. state g.S.Store keep.conn) server.desk end.desk c.into_desk-desk.result c.into_desk-desk.ensures
          after.0.made after.1 c.serves_session.ensures.played c.serves_session.ensures.cut,
      c.in-Ok.ensures.laps,
    )

pub returns-in-Err-clause-cut : goal.returns-in-Err-clause-cut
returns-in-Err-clause-cut g c =
    let server = c.args.server in
    let end = c.serve-end.new.service in
    let after = c.in-Err.ensures.after in (
      end,
      sym c.into_desk-desk.ensures,
      after.0,
      run_of _ {E = Unit {0}} g.C.Clock.gives server.clock end.clock server.paths.site end.paths.site server.peers.items end.peers.items _ (Err c.in-Err.fault)
          (done_in after.0.deeds) (λ keep. state g.S.Store keep.conn) server.desk end.desk c.into_desk-desk.result c.into_desk-desk.ensures
          after.0.made after.1 c.serves_session.ensures.played c.serves_session.ensures.cut,
      c.in-Err.ensures.laps,
    )

pub returns-in-Err-clause-cause : goal.returns-in-Err-clause-cause
returns-in-Err-clause-cause g c is = c.in-Err.ensures.cause (ap Err is)

pub returns-in-Err-clause-moved : goal.returns-in-Err-clause-moved
returns-in-Err-clause-moved g c is = c.in-Err.ensures.moved (ap Err is)
