use Rattle.std.proofs.Common.{rules, refl, is_err, [], ◌∷◌, inl}
use Rattle.tb_event_loop.specs.Deeds.{called}
use Rattle.tb_event_loop.specs.Sockets.{closed}
use Rattle.tb_event_loop.proofs.Acting.{acts_closed}
use Rattle.tb_event_loop.proofs.Doing.{leaves_none}
use Rattle.tb_event_loop.proofs.event_loop.EventLoop.leave.Goals as goal

pub returns-then-not-count_one-clause-after : goal.returns-then-not-count_one-clause-after
returns-then-not-count_one-clause-after g c = record {
  deeds = [];
  done = ((g.N.Sockets.unchanged c.args.sockets.now, refl), tt);
  says = λ limited. absurd (limited (c.count_one.ensures.only (search rules)));
  left = leaves_none c.args.self.now.still_to_end c.count_one.new.still_to_end (c.count_one.ensures.none (search rules));
}

pub returns-clause-after : goal.returns-clause-after
returns-clause-after g c =
    let acts = acts_closed g.N.Sockets.follows g.V.Service.follows g.V.Service.owed_at (is_err c.happen.result) c.args.place c.args.sockets.now c.close.new.self c.args.service.now c.happen.new.self c.close.ensures c.happen.ensures.after in
    record {
      deeds = called (closed c.args.place) ∷ [];
      done = (acts, (refl, tt));
      says = λ limited. inl refl;
      left = c.count_one.ensures.counted (search rules);
    }
