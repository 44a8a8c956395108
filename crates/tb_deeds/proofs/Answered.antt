-- The deed by the board that a command saw and by its answer.
use Rattle.std.proofs.Common.{◌≡◌, ℕ, Option, Some, Result, Ok, sym, ◌∙◌, ap}
use Rattle.tb_core.specs.declared.command.Answer.{Answer}
use Rattle.tb_core.specs.declared.command.Command.{Command}
use Rattle.tb_core.specs.declared.look.SeenBoard.{SeenBoard}
use Rattle.tb_core.specs.declared.refusal.Refusal.{Refusal}
use Rattle.tb_deeds.specs.declared.deed.Deed.{Deed}
use Rattle.tb_deeds.specs.Deeds.{added_in, deed_about, deed_by}

pub told_by : (seen : Option SeenBoard) (r : Result Answer Refusal) (c : Command) (m : ℕ) (b : SeenBoard) (a : Answer) (d : Option Deed) → seen ≡ Some b → r ≡ Ok a
    → d ≡ deed_about b.board c m (added_in a) → d ≡ deed_by seen c m r
told_by seen r c m b a d is so e = e ∙ sym (ap (λ o. deed_by o c m r) is ∙ ap (deed_by (Some b) c m) so)
