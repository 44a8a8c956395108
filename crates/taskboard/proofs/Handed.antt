-- What `?` hands on, what is said of a fault in several clauses, and the end of an order of whose fault nothing more is told.
use Rattle.std.proofs.Common.{◌≡◌, Result, Ok, Err, IfErr, IfOk, refl, subst, sym}
use Rattle.std.proofs.lemmas.Result.{IfErr-at_err, IfOk-at_ok}
use Rattle.std.specs.Prelude.{IsErrAnd, OnErr}
use Rattle.taskboard.specs.Orders.{IsNamed}
use Rattle.tb_command_line.specs.declared.order.Order.{Order}
use Rattle.tb_command_line.specs.declared.order.Order.TheVariants.{Init, Serve, Run, Import, ImportAll, Clean, View, Check, Key, Send, My, Help, Version}
use Rattle.tb_orders.specs.declared.ending.Ending.{Ending}
use Rattle.tb_orders.specs.declared.order_fault.OrderFault.{OrderFault}
use Rattle.tb_program.specs.declared.fault.Fault.{Fault}

pub done_alone : (r : Result Ending OrderFault) (ended : Result Ending Fault) (P : Ending → Type 0) → IfOk r (λ ending. ended ≡ Ok ending)
    → IfOk ended P → IfOk r P
done_alone (Ok ending) ended P same is = IfOk-at_ok P same is
done_alone (Err failed) ended P same is = tt

pub left_by : {A E : Type 0} (r : Result A E) (told : E) (P : E → Type 0) → IsErrAnd r (λ e. e ≡ told) → P told → IfErr r P
left_by (Ok x) told P is left = tt
left_by (Err e) told P is left = subst P (sym is) left

pub left_alone : (r : Result Ending OrderFault) (ended : Result Ending Fault) (P : Fault → Type 0) → IfErr r (λ failed. ended ≡ Err failed.fault)
    → IfErr ended P → IfErr r (λ failed. P failed.fault)
left_alone (Ok ending) ended P same is = tt
left_alone (Err failed) ended P same is = IfErr-at_err P same is

-- of an order that prints nothing
pub printing_none : {E W : Type 0} (r : Result E Fault) (writer : W) (P : Fault → Type 0) → IfErr r P → IfErr r (λ fault. (writer ≡ writer) × P fault)
printing_none (Ok x) writer P is = tt
printing_none (Err fault) writer P is = (refl, is)

-- whatever the fault is
pub always : {A E : Type 0} (r : Result A E) (P : E → Type 0) → ((e : E) → P e) → IfErr r P
always (Ok x) P is = tt
always (Err e) P is = is e

pub of_any : {A E : Type 0} (r : Result A E) (P : Type 0) → OnErr r P → IfErr r (λ e. P)
of_any (Ok x) P is = tt
of_any (Err e) P is = is

pub both : {A E : Type 0} (r : Result A E) (P Q : E → Type 0) → IfErr r P → IfErr r Q → IfErr r (λ e. P e × Q e)
both (Ok x) P Q first second = tt
both (Err e) P Q first second = (first, second)

pub all_three : {A E : Type 0} (r : Result A E) (P Q R : E → Type 0) → IfErr r P → IfErr r Q → IfErr r R → IfErr r (λ e. P e × Q e × R e)
all_three (Ok x) P Q R first second third = tt
all_three (Err e) P Q R first second third = (first, second, third)

pub named_same : (order : Order) → IsNamed order order
named_same (Init order) = refl
named_same (Serve order) = refl
named_same Run = refl
named_same (Import order) = refl
named_same (ImportAll order) = refl
named_same (Clean order) = refl
named_same (View order) = refl
named_same (Check file) = refl
named_same (Key order) = refl
named_same (Send order) = (order.id, refl)
named_same (My order) = refl
named_same (Help topic) = refl
named_same Version = refl
