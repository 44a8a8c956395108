use Rattle.tb_server.proofs.Turning.{makes_turns}
use Rattle.tb_server.proofs.laws.makes_turns.Goals as goal

pub returns : goal.returns
returns g c =
    makes_turns g.C.Clock.gives c.args.before.now.clock c.args.later.now.clock c.args.before.now.paths.site c.args.later.now.paths.site c.args.before.now.peers.items c.args.later.now.peers.items (g.K.Keep.is_honest c.args.before.now.desk) (g.K.Keep.is_honest c.args.later.now.desk)
    (g.K.Keep.holds c.args.before.now.desk) (g.K.Keep.after_stop c.args.before.now.desk)
    (g.K.Keep.holds c.args.later.now.desk) (g.K.Keep.after_stop c.args.later.now.desk)
