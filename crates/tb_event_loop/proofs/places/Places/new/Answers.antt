use Rattle.std.proofs.Common.{◌≡◌, rules, refl}
use Rattle.tb_event_loop.proofs.places.Places.new.Goals as goal

pub returns : goal.returns
returns c = (search rules, search rules, search rules, refl, refl, refl, search rules)
