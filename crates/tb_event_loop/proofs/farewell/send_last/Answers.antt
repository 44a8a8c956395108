use Rattle.std.proofs.Common.{refl}
use Rattle.tb_event_loop.specs.Sockets.{shut}
use Rattle.tb_event_loop.proofs.Acting.{quiet_one}
use Rattle.tb_event_loop.proofs.Parting.{says_quietly, says_then}
use Rattle.tb_event_loop.proofs.farewell.send_last.Goals as goal

pub returns-clause-says : goal.returns-clause-says
returns-clause-says g c =
    says_then g.N.Sockets.follows (g.V.Service.owed_at c.args.service.now) g.N.Sockets.joined c.args.sockets.now c.send_bytes.new.sockets c.stop_sending.new.self c.send_bytes.ensures.says
    (says_quietly g.N.Sockets.follows (g.V.Service.owed_at c.args.service.now) c.send_bytes.new.sockets c.stop_sending.new.self
    (quiet_one g.N.Sockets.follows (shut c.args.place) refl c.send_bytes.new.sockets c.stop_sending.new.self c.stop_sending.ensures))

pub returns-clause-sends : goal.returns-clause-sends
returns-clause-sends g c = (c.send_bytes.new.sockets, c.send_bytes.ensures.writes, c.stop_sending.ensures)
