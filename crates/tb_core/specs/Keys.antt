-- Keys that change.
use Rattle.std.specs.Prelude.{ℕ, Bool, false, not, ◌==◌, ◌||◌, List, [], ◌∷◌, Option, Some, None, is_some, Err}
use Rattle.tb_board.specs.declared.change.Change.TheVariants as change
use Rattle.tb_board.specs.declared.world.Person.{Person}
use Rattle.tb_board.specs.declared.world.World.{World}
use Rattle.tb_board.specs.Changing.{set_key}
use Rattle.tb_board.specs.World.{has_key}
use Rattle.tb_core.specs.declared.command.Answer.TheVariants.{OfPerson}
use Rattle.tb_core.specs.declared.deciding.Decision.{Decision}
use Rattle.tb_core.specs.declared.look.Seen.{Seen}
use Rattle.tb_core.specs.declared.look.SeenPerson.{SeenPerson}
use Rattle.tb_core.specs.declared.refusal.Refusal.{Refusal}
use Rattle.tb_core.specs.declared.refusal.Refusal.TheVariants.{KeyDiffers, NoPerson, NotAllowed, UnknownCaller}
use Rattle.tb_core.specs.Outcomes.{Outcome, decision_of, given}
use Rattle.tb_core.specs.Refusals.{least, where_holds}

abbrev pub with_key_of : World → List ℕ → Option (List ℕ) → World
with_key_of w name key = record w { people = set_key name key w.people }

-- who changes the own key names the old one
-- Rule: who changes the own key names the old one. Refused as KeyDiffers. Tried by own_key_differs.
abbrev pub own_refusals : Person → List ℕ → List (Option Refusal)
own_refusals p old = where_holds KeyDiffers (not (has_key p.key old)) ∷ []

abbrev pub own_key : World → Option Person → List ℕ → List ℕ → Outcome
own_key w None old new = record { world = w; answer = Err UnknownCaller }
own_key w (Some p) old new =
    given (least (own_refusals p old)) w (with_key_of w p.name (Some new)) (OfPerson p.name)

abbrev pub is_first : Option SeenPerson → Bool
is_first None = false
is_first (Some p) = p.number == 1

-- the first person alone sets keys, of others
-- Rule: the first person alone sets keys, of others. Refused as NotAllowed. Tried by person_key.
abbrev pub key_refusals : Seen → ℕ → List (Option Refusal)
key_refusals seen caller =
    where_holds NotAllowed (not (caller == 1) || is_first seen.other)
    ∷ where_holds NoPerson (not (is_some seen.other))
    ∷ []

abbrev pub key_given : World → Seen → Option ℕ → List ℕ → Option (List ℕ) → Outcome
key_given w seen None name key = record { world = w; answer = Err UnknownCaller }
key_given w seen (Some caller) name key =
    given (least (key_refusals seen caller)) w (with_key_of w name key) (OfPerson name)

-- the decisions
abbrev pub own_decision : Option Person → List ℕ → List ℕ → Decision
own_decision None old new = record { changes = []; answer = Err UnknownCaller }
own_decision (Some p) old new =
    decision_of (least (own_refusals p old)) (change.SetKey p.name (Some new) ∷ []) (OfPerson p.name)

abbrev pub key_decision : Seen → Option ℕ → List ℕ → Option (List ℕ) → Decision
key_decision seen None name key = record { changes = []; answer = Err UnknownCaller }
key_decision seen (Some caller) name key =
    decision_of (least (key_refusals seen caller)) (change.SetKey name key ∷ []) (OfPerson name)
