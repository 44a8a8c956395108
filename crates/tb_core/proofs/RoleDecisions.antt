-- The decision that gives a role, from its parts.
use Rattle.std.proofs.Common.{◌≡◌, ◌∙◌, ◌++◌, ◌∷◌, [], ℕ, Bool, List, Option, Ok, ap}
use Rattle.tb_board.specs.declared.board.Board.{Board}
use Rattle.tb_board.specs.declared.change.Change.{Change}
use Rattle.tb_board.specs.declared.change.Change.TheVariants.{SetRole}
use Rattle.tb_board.specs.declared.draft.Draft.{Draft}
use Rattle.tb_board.specs.declared.world.Role.{Role}
use Rattle.tb_board.specs.Changing.{IsDraft}
use Rattle.tb_core.specs.declared.command.Answer.TheVariants.{OnBoard}
use Rattle.tb_core.specs.declared.command.AnswerDetail.TheVariants.{Swept}
use Rattle.tb_core.specs.Giving.{IsRoleDecision}
use Rattle.tb_sweep.specs.Sweeping.{added, more, sweep}

pub role_decided : (b start : Board) (person : ℕ) (role : Option Role) (m : ℕ) (draft : Draft) (number : ℕ) (still : Bool) (before changes : List Change)
    → start ≡ b → IsDraft b draft → draft.board ≡ sweep start m → number ≡ added start m → still ≡ more (sweep start m) m
    → before ≡ draft.changes → changes ≡ before ++ SetRole b.number person role ∷ []
    → IsRoleDecision b person role m (record { changes = changes; answer = Ok (OnBoard (record { board = b.number; added = number; more = still; detail = Swept })) })
role_decided b start person role m draft number still before changes same made swept many left are all =
    record {
      draft = draft;
      made = made;
      swept = swept ∙ ap (λ (x : Board). sweep x m) same;
      changes = all ∙ ap (λ (cs : List Change). cs ++ SetRole b.number person role ∷ []) are;
      answer = ap (λ (n : ℕ). Ok (OnBoard (record { board = b.number; added = n; more = still; detail = Swept }))) (many ∙ ap (λ (x : Board). added x m) same)
          ∙ ap (λ (q : Bool). Ok (OnBoard (record { board = b.number; added = added b m; more = q; detail = Swept }))) (left ∙ ap (λ (x : Board). more (sweep x m) m) same);
    }
