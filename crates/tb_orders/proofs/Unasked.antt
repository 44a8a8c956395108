-- Of what an import fails for that says that its text is bad.
use Rattle.std.proofs.Common.{◌≡◌, ◌∷◌, ◌+◌, ℕ, ◌<◌, List, Option, Some, None, IfSome, IsErrOf, Result, Ok, Err, inl, inr, length, subst, sym}
use Rattle.tb_calls.specs.declared.call.Call.{Call}
use Rattle.tb_command_line.specs.declared.order.ImportOrder.{ImportOrder}
use Rattle.tb_http.specs.declared.message.Message.{Message}
use Rattle.tb_orders.specs.Input.{IsBadText}
use Rattle.tb_orders.specs.Lists.{IsCut}
use Rattle.tb_orders.specs.Message.{message_of}
use Rattle.tb_orders.specs.Orders.{AsksFor}
use Rattle.tb_orders.specs.Running.{HasUnasked, IsBadWhole, messages_behind, part_message}
use Rattle.tb_program.specs.declared.fault.Fault.{Fault}
use Rattle.tb_program.specs.declared.fault.Fault.TheVariants.{BadBody}
use Rattle.tb_task.specs.Limits.{longest_body}

-- what is so of the text that was read is so of the input
pub of_whole : (P : List ℕ → Type 0) (input : Option (List ℕ)) (text : List ℕ)
    → IfSome input (λ all. text ≡ all) → P text → IfSome input P
of_whole P None text same is = tt
of_whole P (Some all) text same is = subst P same is

pub some_weaker : (input : Option (List ℕ)) (P Q : List ℕ → Type 0)
    → ((text : List ℕ) → P text → Q text) → IfSome input P → IfSome input Q
some_weaker None P Q f is = tt
some_weaker (Some all) P Q f is = f all is

-- a text that was too long
pub long_bad : {X : Type 0} (order : ImportOrder) (input : Option (List ℕ)) (r : Result X Fault)
    → IfSome input (λ text. IsErrOf r BadBody → longest_body < length text) → IsErrOf r BadBody
    → IfSome input (IsBadText order)
long_bad order input r long is =
    some_weaker input (λ text. IsErrOf r BadBody → longest_body < length text) (IsBadText order) (λ text so. inl (so is)) long

-- a text that asks for no call
pub unasked_bad : (order : ImportOrder) (input : Option (List ℕ)) (text : List ℕ) (m : Message) (at : ℕ)
    → IfSome input (λ all. text ≡ all) → m ≡ message_of order text
    → ((call : Call) → AsksFor m at call → ⊥) → IfSome input (IsBadText order)
unasked_bad order input text m at whole is none =
    of_whole (IsBadText order) input text whole (inr (at, subst (λ x. (call : Call) → AsksFor x at call → ⊥) is none))

-- the first of some parts, or one behind it
pub unasked_first : (order : ImportOrder) (n : ℕ) (parts : List (List ℕ)) (part : List ℕ) (rest : List (List ℕ)) (at : ℕ) → parts ≡ part ∷ rest
    → ((call : Call) → AsksFor (part_message order (n + 1) part) at call → ⊥) → HasUnasked (messages_behind order n parts) at
unasked_first order n parts part rest at is none =
    subst (λ ps. HasUnasked (messages_behind order n ps) at) (sym is) (inl none)

pub unasked_behind : (order : ImportOrder) (n : ℕ) (parts : List (List ℕ)) (part : List ℕ) (rest : List (List ℕ)) (at : ℕ) → parts ≡ part ∷ rest
    → HasUnasked (messages_behind order (n + 1) rest) at → HasUnasked (messages_behind order n parts) at
unasked_behind order n parts part rest at is none =
    subst (λ ps. HasUnasked (messages_behind order n ps) at) (sym is) (inr none)

-- a text whose parts can't be, or one of whose parts asks for no call
pub uncut_bad : (order : ImportOrder) (input : Option (List ℕ)) → IfSome input (λ text. IsCut order.kind text None) → IfSome input (IsBadWhole order)
uncut_bad order input uncut =
    some_weaker input (λ text. IsCut order.kind text None) (IsBadWhole order) (λ text is. inl is) uncut

pub part_bad : (order : ImportOrder) (input : Option (List ℕ)) (text : List ℕ) (parts : List (List ℕ)) (at : ℕ) → IfSome input (λ all. text ≡ all)
    → IsCut order.kind text (Some parts) → HasUnasked (messages_behind order 0 parts) at → IfSome input (IsBadWhole order)
part_bad order input text parts at whole cut bad =
    of_whole (IsBadWhole order) input text whole (inr (parts, at, cut, bad))
