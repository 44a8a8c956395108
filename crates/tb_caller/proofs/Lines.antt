-- What comes of a call over a line, or where there was no memory for one; under which identifier a call is sent; and what is taken back.
use Rattle.std.proofs.Common.{◌≡◌, ℕ, Bool, true, false, true≢false, is_some, IsNone, IsSome, List, None, Option, Some, ap, inl, inr, refl, ◌∙◌, subst, sym}
use Rattle.std.specs.Prelude.{◌⊎◌}
use Rattle.tb_caller.specs.Asking.{IsCallOf}
use Rattle.tb_caller.specs.Mine.{IsAsked, IsMineBy, IsUndone, IsUndoneIn, named_board}
use Rattle.tb_client.specs.Asking.{Event}
use Rattle.tb_command_line.specs.declared.order.SendOrder.{SendOrder}
use Rattle.tb_mine.specs.Asked.{Asked, Output}
use Rattle.tb_my.specs.Days.{Text}
use Rattle.tb_my.specs.Options.{words_after_options}
use Rattle.tb_my.specs.declared.settings.Asker.{Asker}
use Rattle.tb_orders.specs.declared.ending.Ending.{Ending}
use Rattle.tb_sending.specs.Drawing.{IsDrawn}
use Rattle.tb_sending.specs.declared.server_line.ServerLine.{ServerLine}

pub cut_over : {P Q R : Type 0} → P ⊎ Q → (P → R) → R ⊎ Q
cut_over (inl is) more = inl (more is)
cut_over (inr is) more = inr is

-- of a name that is given, or is drawn
pub called_by : {G : Type 0} (gives : Option (List ℕ) → G → G → Type 0) (call : Option ℕ) (old new : SendOrder) (before after : G)
    → old.id ≡ call → (IsSome old.id → (new ≡ old) × (after ≡ before)) → (IsNone old.id → IsDrawn gives before after new.id)
    → IsCallOf gives call new.id before
called_by gives (Some id) old new before after is given random =
    ap (λ (order : SendOrder). order.id) (given (subst IsSome (sym is) refl)).0 ∙ is
called_by gives None old new before after is given random = (after, random (subst IsNone (sym is) refl))

-- what the folder held doesn't matter here
pub undone_of : {F : Type 0} (has : F → Text → Text → Type 0) (old new : F) (before after : Output) (asker : Asker) (asked : List Asked) (ok : Bool)
    → IsUndoneIn has old new before after asker asked ok → IsUndone before after asker asked ok
undone_of has old new before after asker asked ok (inl (same, refused)) = inl refused
undone_of has old new before after asker asked ok (inr (kept, (had, left, inl refused))) = inl refused
undone_of has old new before after asker asked ok (inr (kept, (had, left, inr is))) = inr (kept, is)

module _ {M G : Type 0} (follows : List Event → ServerLine M → ServerLine M → Type 0) (gives : Option (List ℕ) → G → G → Type 0) where
  -- words that ask for no help, for no settings and for no look at a file
  pub mine_by : (help : Option Text) (setup : Bool) (checked : Option Text) (all : List Text) (input : Option Text) (before after : Output) (ending : Ending)
      → help ≡ None → setup ≡ false → checked ≡ None → IsAsked follows gives (named_board all) (words_after_options all) input before after ending
      → IsMineBy follows gives help setup checked all input before after ending
  mine_by None false None all input before after ending no_help no_setup no_check is = is
  mine_by None false (Some path) all input before after ending no_help no_setup no_check is = absurd (true≢false (ap is_some no_check))
  mine_by None true checked all input before after ending no_help no_setup no_check is = absurd (true≢false no_setup)
  mine_by (Some text) setup checked all input before after ending no_help no_setup no_check is = absurd (true≢false (ap is_some no_help))
