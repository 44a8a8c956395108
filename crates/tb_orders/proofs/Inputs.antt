-- An import of an input, by what the import of its text promises.
use Rattle.std.proofs.Common.{◌≡◌, ◌⊎◌, ℕ, Bool, true, List, [], ◌∷◌, Option, IfErr, IfOk, IfSome, OnOk, Result, Ok, Err, true≢false, arith, inl, inr, refl, subst, sym}
use Rattle.std.specs.Io.KnownBytes.{Appends}
use Rattle.tb_asking.specs.Asking.{asked_of}
use Rattle.tb_asking.specs.declared.asked.Asked.{Asked}
use Rattle.tb_asking.specs.declared.asked.Asked.TheVariants as asked
use Rattle.tb_asking.specs.declared.rejection.Rejection.{Rejection}
use Rattle.tb_calls.specs.Call.{State, once, plain, reply}
use Rattle.tb_calls.specs.Leaving.{Only, StandsAfter}
use Rattle.tb_calls.specs.declared.call.Call.{Call}
use Rattle.tb_command_line.specs.declared.order.ImportOrder.{ImportOrder}
use Rattle.tb_http.specs.declared.message.Message.{Message}
use Rattle.tb_orders.specs.Input.{IsMade}
use Rattle.tb_orders.specs.Message.{message_of}
use Rattle.tb_orders.specs.Orders.{AsksFor, ending_of, line_text}
use Rattle.tb_orders.specs.Telling.{is_of_imports, is_of_inputs, is_of_messages}
use Rattle.tb_orders.specs.declared.ending.Ending.{Ending}
use Rattle.tb_program.specs.declared.fault.Fault.{Fault}
use Rattle.tb_program.specs.declared.fault.Fault.TheVariants.{Bad, BadBody, Memory, NoAnswer, NoClock, NoKey, NoListen, NoPage, NotEmpty, NotOurs, ReadFailed, Store, WriteFailed, WrongVersion}

is_call_or_not : (r : Result Asked Rejection) → ((call : Call) × (r ≡ Ok (asked.Call call))) ⊎ ((call : Call) → r ≡ Ok (asked.Call call) → ⊥)
is_call_or_not (Ok (asked.Call call)) = inl (call, refl)
is_call_or_not (Ok (asked.View sender view)) = inr (λ call is. absurd (cc))
is_call_or_not (Ok asked.Unknown) = inr (λ call is. absurd (cc))
is_call_or_not (Err rejection) = inr (λ call is. absurd (cc))

pub asks_or_not : (m : Message) (at : ℕ) → ((call : Call) × AsksFor m at call) ⊎ ((call : Call) → AsksFor m at call → ⊥)
asks_or_not m at = is_call_or_not (asked_of m at)

-- an accepted import made the call that was asked for
pub made_by : (given : ℕ → Type 0) (r : Result Ending Fault) (order : ImportOrder) (text : List ℕ) (m : Message) (at : ℕ) (input : Option (List ℕ)) (s : State)
    (honest : Bool) (now : State → Type 0) (before after : Option (List ℕ)) → given at → m ≡ message_of order text → IfSome input (λ all. text ≡ all)
    → (honest ≡ true → (call : Call) → AsksFor m at call → OnOk r (Appends before after (line_text (reply s [] call))))
    → ((call : Call) → AsksFor m at call → OnOk r (now (plain s (once s (call ∷ [])))))
    → (honest ≡ true → (call : Call) → AsksFor m at call → IfOk r (λ ending. ending ≡ ending_of (reply s [] call)))
    → (((call : Call) → AsksFor m at call → ⊥) → (r ≡ Err BadBody) ⊎ (r ≡ Err Memory))
    → IfOk r (IsMade given order input s honest now before after)
made_by given (Err fault) order text m at input s honest now before after gave is whole told left ends unasked = tt
made_by given (Ok ending) order text m at input s honest now before after gave is whole told left ends unasked =
    elim (asks_or_not m at) [
      | inl made ↦ record {
        call = made.0;
        asked = record { text = text; at = at; gave = gave; whole = whole; asked = subst (λ x. AsksFor x at made.0) is made.1 };
        held = left made.0 made.1;
        told = λ so. told so made.0 made.1;
        ends = λ so. ends so made.0 made.1;
      }
      | inr none ↦ elim (unasked none) [ inl refused ↦ absurd (cc) | inr refused ↦ absurd (cc) ]
    ]

-- no call was made
pub none_made : (s : State) (now stops : State → Type 0) → now s → Only s stops → StandsAfter s [] 0 now stops
none_made s now stops held only =
    record { held = (s, held, (0, omega arith, omega arith, refl)); stops = λ t left. (0, omega arith, omega arith, only t left) }

pub of_message : (fault : Fault) → is_of_messages fault ≡ true → is_of_inputs fault ≡ true
of_message Bad is = absurd (true≢false (sym is))
of_message BadBody is = refl
of_message Memory is = refl
of_message NoClock is = refl
of_message NoListen is = absurd (true≢false (sym is))
of_message NoAnswer is = absurd (true≢false (sym is))
of_message NoKey is = absurd (true≢false (sym is))
of_message NoPage is = absurd (true≢false (sym is))
of_message NotEmpty is = absurd (true≢false (sym is))
of_message NotOurs is = absurd (true≢false (sym is))
of_message ReadFailed is = refl
of_message Store is = absurd (true≢false (sym is))
of_message WriteFailed is = absurd (true≢false (sym is))
of_message WrongVersion is = absurd (true≢false (sym is))

pub of_import : (fault : Fault) → is_of_imports fault ≡ true → is_of_inputs fault ≡ true
of_import Bad is = absurd (true≢false (sym is))
of_import BadBody is = refl
of_import Memory is = refl
of_import NoClock is = absurd (true≢false (sym is))
of_import NoListen is = absurd (true≢false (sym is))
of_import NoAnswer is = absurd (true≢false (sym is))
of_import NoKey is = absurd (true≢false (sym is))
of_import NoPage is = absurd (true≢false (sym is))
of_import NotEmpty is = absurd (true≢false (sym is))
of_import NotOurs is = absurd (true≢false (sym is))
of_import ReadFailed is = absurd (true≢false (sym is))
of_import Store is = refl
of_import WriteFailed is = refl
of_import WrongVersion is = absurd (true≢false (sym is))

-- once the text was read, no read fails
pub never_unread : (r : Result Ending Fault) → IfErr r (λ fault. is_of_imports fault ≡ true) → r ≡ Err ReadFailed → ⊥
never_unread r of is = true≢false (sym (subst (λ x. IfErr x (λ fault. is_of_imports fault ≡ true)) is of))
