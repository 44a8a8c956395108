-- The task for which an import failed, among its parts.
use Rattle.std.proofs.Common.{◌≡◌, ◌∷◌, ◌+◌, ℕ, List, Option, Some, None, IfErr, IfSome, Result, Ok, Err, inl, inr, subst, sym}
use Rattle.tb_asking.specs.Asking.{asked_of}
use Rattle.tb_command_line.specs.declared.order.ImportOrder.{ImportOrder}
use Rattle.tb_orders.specs.Items.{IsBadAmong, IsBadBehind, IsBadIn, item_in}
use Rattle.tb_orders.specs.Lists.{IsCut}
use Rattle.tb_orders.specs.Message.{message_of}
use Rattle.tb_orders.specs.Running.{part_message}
use Rattle.tb_orders.specs.declared.ending.Ending.{Ending}
use Rattle.tb_orders.specs.declared.order_fault.BadItem.{BadItem}
use Rattle.tb_orders.specs.declared.order_fault.OrderFault.{OrderFault}

pub is_told : (item expected : Option BadItem) → item ≡ expected → IfSome item (λ told. expected ≡ Some told)
is_told None expected is = tt
is_told (Some told) expected is = sym is

weaker : (item : Option BadItem) (P Q : BadItem → Type 0) → ((told : BadItem) → P told → Q told) → IfSome item P → IfSome item Q
weaker None P Q f is = tt
weaker (Some told) P Q f is = f told is

failed_weaker : (r : Result Ending OrderFault) (P Q : BadItem → Type 0) → ((told : BadItem) → P told → Q told)
    → IfErr r (λ failed. IfSome failed.item P) → IfErr r (λ failed. IfSome failed.item Q)
failed_weaker (Ok ending) P Q f is = tt
failed_weaker (Err failed) P Q f is = weaker failed.item P Q f is

-- in the first of some parts
pub bad_first : (order : ImportOrder) (n : ℕ) (parts : List (List ℕ)) (part : List ℕ) (rest : List (List ℕ)) (at : ℕ) (item : Option BadItem) → parts ≡ part ∷ rest
    → IfSome item (λ told. item_in (n + 1) (asked_of (part_message order (n + 1) part) at) ≡ Some told) → IfSome item (IsBadBehind order n parts at)
bad_first order n parts part rest at item is bad =
    subst (λ ps. IfSome item (IsBadBehind order n ps at)) (sym is)
    (weaker item (λ told. item_in (n + 1) (asked_of (part_message order (n + 1) part) at) ≡ Some told) (IsBadBehind order n (part ∷ rest) at) (λ told e. inl e) bad)

-- in one behind it
pub bad_behind : (order : ImportOrder) (n : ℕ) (parts : List (List ℕ)) (part : List ℕ) (rest : List (List ℕ)) (at : ℕ) (r : Result Ending OrderFault) → parts ≡ part ∷ rest
    → IfErr r (λ failed. IfSome failed.item (IsBadBehind order (n + 1) rest at)) → IfErr r (λ failed. IfSome failed.item (IsBadBehind order n parts at))
bad_behind order n parts part rest at r is bad =
    subst (λ ps. IfErr r (λ failed. IfSome failed.item (IsBadBehind order n ps at))) (sym is)
    (failed_weaker r (IsBadBehind order (n + 1) rest at) (IsBadBehind order n (part ∷ rest) at) (λ told e. inr e) bad)

-- of an input
pub bad_among : (order : ImportOrder) (input : Option (List ℕ)) (text : List ℕ) (parts : List (List ℕ)) (at : ℕ) (r : Result Ending OrderFault)
    → IfSome input (λ all. text ≡ all) → IsCut order.kind text (Some parts)
    → IfErr r (λ failed. IfSome failed.item (IsBadBehind order 0 parts at)) → IfErr r (λ failed. IfSome failed.item (IsBadAmong order input))
bad_among order input text parts at r whole cut bad =
    failed_weaker r (IsBadBehind order 0 parts at) (IsBadAmong order input)
    (λ told is. record { text = text; parts = parts; at = at; whole = whole; cut = cut; is = is }) bad

pub bad_in : (order : ImportOrder) (input : Option (List ℕ)) (text : List ℕ) (at : ℕ) (r : Result Ending OrderFault) → IfSome input (λ all. text ≡ all)
    → IfErr r (λ failed. IfSome failed.item (λ told. item_in 1 (asked_of (message_of order text) at) ≡ Some told))
    → IfErr r (λ failed. IfSome failed.item (IsBadIn order input))
bad_in order input text at r whole bad =
    failed_weaker r (λ told. item_in 1 (asked_of (message_of order text) at) ≡ Some told) (IsBadIn order input)
    (λ told is. record { text = text; at = at; whole = whole; is = is }) bad
