use Rattle.std.proofs.Common.{◌≡◌, ℕ, drop}
use Rattle.std.specs.Option.{option_map}
use Rattle.tb_event_loop.specs.Hearing.{marked_by}
use Rattle.tb_event_loop.specs.Places.{connection_in}
use Rattle.tb_event_loop.proofs.places.Places.mark_ready.Given as goal

-- only connections were changed, and what is left to be told makes of them what all makes of those before
abbrev pub invariant-news : goal.invariant-news
invariant-news l = record {
  same : l.self ≡ record l.fn.self { connections = l.self.connections };
  marks : (at : ℕ) → option_map (marked_by (drop l.event-index l.told) at) (connection_in l.self at) ≡ option_map (marked_by l.told at) (connection_in l.fn.self at);
}
