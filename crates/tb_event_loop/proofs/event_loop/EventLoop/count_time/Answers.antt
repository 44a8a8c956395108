use Rattle.std.proofs.Common.{◌∙◌}
use Rattle.tb_event_loop.proofs.event_loop.EventLoop.count_time.Goals as goal

pub returns-clause-seen : goal.returns-clause-seen
returns-clause-seen g c = let shown = c.now-self.ensures.shown in (shown.0, c.now-self.new.self.ticks, shown.1, c.now-self.ensures.told ∙ shown.2)
