use Rattle.std.proofs.Common.{rules, refl}
use Rattle.tb_event_loop.specs.Sockets.{deaf, waited}
use Rattle.tb_event_loop.proofs.Acting.{quiet_none, quiet_one, quiet_then}
use Rattle.tb_event_loop.proofs.event_loop.EventLoop.let_read.Goals as goal

pub looks-init : goal.looks-init
looks-init g c = quiet_none g.N.Sockets.follows g.N.Sockets.unchanged c.args.sockets.now

pub returns-then-drop_all : goal.returns-then-drop_all
returns-then-drop_all g c =
    quiet_then g.N.Sockets.follows g.N.Sockets.joined c.args.sockets.now c.looks.sockets c.drop_all.new.sockets c.looks.invariant c.drop_all.ensures

pub returns-then-not-wait : goal.returns-then-not-wait
returns-then-not-wait g c =
    quiet_then g.N.Sockets.follows g.N.Sockets.joined c.args.sockets.now c.drop_all.new.sockets c.wait.new.self
    (quiet_then g.N.Sockets.follows g.N.Sockets.joined c.args.sockets.now c.looks.sockets c.drop_all.new.sockets c.looks.invariant c.drop_all.ensures)
    (quiet_one g.N.Sockets.follows deaf refl c.drop_all.new.sockets c.wait.new.self (c.wait.ensures.deaf (search rules)))

pub looks-preserved : goal.looks-preserved
looks-preserved g c =
    quiet_then g.N.Sockets.follows g.N.Sockets.joined c.args.sockets.now c.drop_all.new.sockets c.wait.new.self
    (quiet_then g.N.Sockets.follows g.N.Sockets.joined c.args.sockets.now c.looks.sockets c.drop_all.new.sockets c.looks.invariant c.drop_all.ensures)
    (quiet_one g.N.Sockets.follows (waited _ _) refl c.drop_all.new.sockets c.wait.new.self (c.wait.ensures.heard (search rules)))
