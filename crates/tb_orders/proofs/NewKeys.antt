-- What an order of a key asks for.
use Rattle.std.proofs.Common.{◌≡◌, ℕ, Bool, true, false, IfOk, List, Option, Some, Result, Ok, Err, length, refl, subst, sym}
use Rattle.tb_command_line.specs.declared.order.KeyOrder.{KeyOrder}
use Rattle.tb_orders.specs.NewKey.{HasDrawn, HasDrawnBoth, IsAsked, IsKeyFor, IsMadeKey, new_key}
use Rattle.tb_orders.specs.declared.new_key.NewKey.{NewKey}
use Rattle.tb_program.specs.declared.fault.Fault.{Fault}

-- a key that isn't read is made
pub made_for : {G : Type 0} (gives : Option (List ℕ) → G → G → Type 0) (before after : G) (is_read : Bool) (input : Option (List ℕ)) (r : Result (List ℕ) Fault)
    → is_read ≡ false → IfOk r (λ key. (drawn : List ℕ) × gives (Some drawn) before after × IsMadeKey drawn key)
    → IfOk r (λ key. (drawn : Option (List ℕ)) × HasDrawn gives drawn before after × IsKeyFor is_read drawn input key)
made_for gives before after is_read input (Err fault) is made = tt
made_for gives before after true input (Ok key) is made = absurd (cc)
made_for gives before after false input (Ok key) is made = (Some made.0, made.1, made.2)

-- a key for it under an identifier of bytes that were drawn
pub asked_of : {G : Type 0} (gives : Option (List ℕ) → G → G → Type 0) (before between after : G) (given : ℕ → Type 0) (order : KeyOrder) (input : Option (List ℕ))
    (for_key : Option (List ℕ)) (key drawn : List ℕ) (moment : ℕ) (asked : NewKey)
    → HasDrawn gives for_key before between → IsKeyFor order.is_read for_key input key → gives (Some drawn) between after → length drawn ≡ 16
    → given moment → asked ≡ new_key order key drawn moment → IsAsked (HasDrawnBoth gives before after) given order input asked
asked_of gives before between after given order input for_key key drawn moment asked drew known went long came is =
    subst (IsAsked (HasDrawnBoth gives before after) given order input) (sym is) (record {
      name_is = refl;
      made_is = refl;
      for_key = for_key;
      for_id = drawn;
      drawn = (between, drew, went);
      key_is = known;
      long = long;
      id_is = refl;
      at_is = came;
    })

-- whatever was drawn
pub asked_anyhow : (drew : Option (List ℕ) → List ℕ → Type 0) (given : ℕ → Type 0) (order : KeyOrder) (input : Option (List ℕ)) (asked : NewKey)
    → IsAsked drew given order input asked → IsAsked (λ key id. Unit {0}) given order input asked
asked_anyhow drew given order input asked was = record {
  name_is = was.name_is;
  made_is = was.made_is;
  for_key = was.for_key;
  for_id = was.for_id;
  drawn = tt;
  key_is = was.key_is;
  long = was.long;
  id_is = was.id_is;
  at_is = was.at_is;
}
