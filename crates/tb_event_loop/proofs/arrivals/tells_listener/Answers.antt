use Rattle.std.proofs.Common.{rules, tests}
use Rattle.std.specs.Prelude.{is_none}
use Rattle.std.proofs.lemmas.Iterator.{YieldsList-from_slice}
use Rattle.std.proofs.lemmas.Iterator.Search.{any_from_yields_List}
use Rattle.tb_event_loop.specs.declared.sockets.Told.{Told}
use Rattle.tb_event_loop.proofs.arrivals.tells_listener.Goals as goal

pub returns : goal.returns
returns c =
    any_from_yields_List (λ (one : Told). is_none one.place) _ _ _ c.any.ensures.ran (YieldsList-from_slice c.args.told.now cc) (λ x b q k. search (rules, tests))
