use Rattle.std.proofs.Common.{refl}
use Rattle.tb_event_loop.proofs.Acting.{at_nothing, at_quiet}
use Rattle.tb_event_loop.proofs.Noting.{counts_kept}
use Rattle.tb_event_loop.proofs.places.Places.act.Goals as goal

pub returns-then-is_gone-clause-after : goal.returns-then-is_gone-clause-after
returns-then-is_gone-clause-after g c = at_nothing g.N.Sockets.follows g.V.Service.follows g.V.Service.owed_at c.args.place g.N.Sockets.unchanged c.args.sockets.now c.args.service.now

pub returns-in-Vacant-clause-after : goal.returns-in-Vacant-clause-after
returns-in-Vacant-clause-after g c = at_nothing g.N.Sockets.follows g.V.Service.follows g.V.Service.owed_at c.args.place g.N.Sockets.unchanged c.args.sockets.now c.args.service.now

pub returns-in-Closing-clause-after : goal.returns-in-Closing-clause-after
returns-in-Closing-clause-after g c = at_quiet g.N.Sockets.follows g.V.Service.follows g.V.Service.owed_at c.args.place c.args.sockets.now c.drop_some.new.sockets c.args.service.now c.drop_some.ensures.quiet

pub returns-then-is_gone-clause-counts : goal.returns-then-is_gone-clause-counts
returns-then-is_gone-clause-counts g c = counts_kept c.args.place c.args.self.now c.args.self.now refl

pub returns-in-Vacant-clause-counts : goal.returns-in-Vacant-clause-counts
returns-in-Vacant-clause-counts g c = counts_kept c.args.place c.args.self.now c.args.self.now refl

pub returns-in-Closing-clause-counts : goal.returns-in-Closing-clause-counts
returns-in-Closing-clause-counts g c = counts_kept c.args.place c.args.self.now c.drop_some.new.self c.drop_some.ensures.others

pub returns-in-Answering-clause-counts : goal.returns-in-Answering-clause-counts
returns-in-Answering-clause-counts g c = counts_kept c.args.place c.args.self.now c.reply.new.self c.reply.ensures.keeps
