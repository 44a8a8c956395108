-- A refusal that isn't printed whole.
use Rattle.std.proofs.Common.{◌≡◌, List, [], ◌∷◌, ◌++◌, Option, IfErr, OnErr, Result, Ok, Err, subst, sym}
use Rattle.tb_client.specs.Request.{Text}
use Rattle.tb_client.specs.declared.answer.Reply.{Reply}
use Rattle.tb_orders.specs.declared.ending.Ending.{Ending}
use Rattle.tb_program.specs.declared.fault.Fault.{Fault}
use Rattle.tb_program.specs.declared.fault.Fault.TheVariants.{WriteFailed}
use Rattle.tb_sending.specs.Places.{IsRefusal, IsUnread}
use Rattle.tb_values.specs.Appends.{AppendsFront}

module _ {W : Type 0} (contents : W → Option Text) where
  pub refusal_cut : (r : Result (Option Ending) Fault) (words : List Text) (reply : Reply) (before after : W) (text : Text)
      → IsRefusal words reply text → OnErr r (AppendsFront (contents before) (contents after) (text ++ 10 ∷ []))
      → IfErr r (λ fault. fault ≡ WriteFailed) → IfErr r (IsUnread contents words reply before after)
  refusal_cut (Ok end) words reply before after text why front is = tt
  refusal_cut (Err fault) words reply before after text why front is = subst (IsUnread contents words reply before after) (sym is) (text, why, front)
