use Rattle.std.proofs.Common.{sym, ap, subst, refl, ◌∙◌}
use Rattle.tb_event_loop.specs.Places.{LetsGoOne}
use Rattle.tb_rooms.specs.Yielding.{gives_way}
use Rattle.tb_event_loop.proofs.places.Places.make_room.Goals as goal

pub returns-in-Some : goal.returns-in-Some
returns-in-Some c =
    let found = ap (gives_way c.args.self.now.rooms c.args.self.now.limits c.args.now) (sym c.deref.ensures.value) ∙ sym c.gives_way.ensures ∙ c.in-Some.is in
    subst (LetsGoOne c.args.self.now c.let_go.new.self) (sym found) c.let_go.ensures

pub returns-in_default : goal.returns-in_default
returns-in_default c =
    let found = ap (gives_way c.args.self.now.rooms c.args.self.now.limits c.args.now) (sym c.deref.ensures.value) ∙ sym c.gives_way.ensures ∙ c.in_default.is in
    subst (LetsGoOne c.args.self.now c.args.self.now) (sym found) refl
