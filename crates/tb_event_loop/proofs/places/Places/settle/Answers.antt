use Rattle.std.proofs.Common.{◌≡◌, ℕ, Bool, true, false, List, [], ◌∷◌, subst, sym, arith}
use Rattle.std.proofs.lemmas.Grind.{common_steps}
use Rattle.tb_event_loop.specs.Places.{GoesOn, Settles, SettlesIf, SettlesTo, is_waiting, stage_in}
use Rattle.tb_event_loop.specs.declared.places.Places.{Places}
use Rattle.tb_event_loop.proofs.Acting.{quiet_none}
use Rattle.tb_event_loop.proofs.places.Places.settle.Goals as goal

settles_to : (old new : Places) (place now : ℕ) (owed : List ℕ) (closes : Bool) (held : List ℕ) → owed ≡ [] → closes ≡ false
    → GoesOn old new place now owed closes held → SettlesTo old new place now owed closes held
settles_to old new place now [] false held sent goes_on goes = goes
settles_to old new place now [] true held sent goes_on goes = cc
settles_to old new place now (byte ∷ owed) closes held sent goes_on goes = cc

settles_on : (old new : Places) (place now : ℕ) (owed : List ℕ) (closes : Bool) (held : List ℕ) → is_waiting (stage_in old place) ≡ false
    → owed ≡ [] → closes ≡ false → GoesOn old new place now owed closes held → Settles old new place now owed closes held
settles_on old new place now owed closes held waits sent goes_on goes =
    subst (λ (b : Bool). SettlesIf b old new place now owed closes held) (sym waits) (settles_to old new place now owed closes held sent goes_on goes)

pub returns-clause-settled : goal.returns-clause-settled
returns-clause-settled g c =
    settles_on c.args.self.now c.go_on.new.self c.args.place c.args.now (g.V.Service.owed_at c.args.service.now c.args.place) (g.V.Service.closes_at c.args.service.now c.args.place)
    (g.V.Service.held_at c.args.service.now c.args.place) (grind (arith, common_steps)) (grind (arith, common_steps)) (grind (arith, common_steps)) c.go_on.ensures

pub returns-clause-quiet : goal.returns-clause-quiet
returns-clause-quiet g c = quiet_none g.N.Sockets.follows g.N.Sockets.unchanged c.args.sockets.now
