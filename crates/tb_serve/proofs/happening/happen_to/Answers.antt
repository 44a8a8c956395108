use Rattle.std.proofs.Common.{None, sym, subst}
use Rattle.tb_serve.proofs.Following.{memory_follows, unchanged}
use Rattle.tb_serve.specs.Server.{Comes, done_of}
use Rattle.tb_serve.specs.declared.happening.PeerEvent.{PeerEvent}
use Rattle.tb_serve.proofs.happening.happen_to.Goals as goal

pub returns-in-Opened-clause-happens : goal.returns-in-Opened-clause-happens
returns-in-Opened-clause-happens g c y s held only =
    subst (λ (h : PeerEvent). Comes c.args.paths.now.site None s (done_of h) c.args.peer.now c.open.new.peer
    (g.K.Keep.holds c.args.desk.now) (g.K.Keep.after_stop c.args.desk.now)) (sym c.in-Opened.is)
    (c.open.ensures c.args.paths.now.site s held only)

pub returns-in-Opened-clause-follows : goal.returns-in-Opened-clause-follows
returns-in-Opened-clause-follows g c = unchanged (g.K.Keep.holds c.args.desk.now) (g.K.Keep.after_stop c.args.desk.now)

pub returns-in-Came-clause-follows : goal.returns-in-Came-clause-follows
returns-in-Came-clause-follows g c =
    memory_follows c.come.result (g.K.Keep.holds c.args.desk.now) (g.K.Keep.after_stop c.args.desk.now) c.come.ensures.memory

pub returns-in-Went-clause-happens : goal.returns-in-Went-clause-happens
returns-in-Went-clause-happens g c y s held only =
    subst (λ (h : PeerEvent). Comes c.args.paths.now.site None s (done_of h) c.args.peer.now c.go.new.peer
    (g.K.Keep.holds c.args.desk.now) (g.K.Keep.after_stop c.args.desk.now)) (sym c.in-Went.is)
    (c.go.ensures c.args.paths.now.site s held only)

pub returns-in-Went-clause-follows : goal.returns-in-Went-clause-follows
returns-in-Went-clause-follows g c = unchanged (g.K.Keep.holds c.args.desk.now) (g.K.Keep.after_stop c.args.desk.now)
