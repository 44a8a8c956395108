-- What an import has done, by what the import of its text promises.
use Rattle.std.proofs.Common.{◌≡◌, ◌≢◌, ◌⊎◌, ◌∙◌, ◌+◌, ◌≤◌, ℕ, Bool, true, false, if◌then◌else◌, List, [], ◌∷◌, length, take, Option, IfErr, IfSome, OnErr, OnOk, Result, Ok, Err, ap, arith, inl, inr, refl, subst, sym, true≢false}
use Rattle.std.proofs.lemmas.List.{append-nil}
use Rattle.std.specs.Io.KnownBytes.{Appends, Keeps}
use Rattle.tb_calls.specs.Call.{State, replies_to, reply}
use Rattle.tb_calls.specs.Leaving.{Only, StandsAfter}
use Rattle.tb_calls.specs.declared.call.Call.{Call}
use Rattle.tb_calls.specs.Keep.{is_store}
use Rattle.tb_calls.specs.declared.fault.KeepFault.{KeepFault}
use Rattle.tb_calls.specs.declared.fault.KeepFault.TheVariants as keep
use Rattle.tb_calls.specs.declared.reply.Reply.{Reply}
use Rattle.tb_command_line.specs.declared.order.ImportOrder.{ImportOrder}
use Rattle.tb_http.specs.declared.message.Message.{Message}
use Rattle.tb_orders.proofs.Inputs.{asks_or_not, none_made}
use Rattle.tb_orders.specs.Doing.{AreMade, Does, is_unread, made_of, may_act}
use Rattle.tb_orders.specs.Input.{IsAskedBy}
use Rattle.tb_orders.specs.Message.{message_of}
use Rattle.tb_orders.specs.Orders.{AsksFor, calls_made, fault_of_keep, line_text}
use Rattle.tb_orders.specs.Running.{AreFirst, lines_text, more_by}
use Rattle.tb_orders.specs.Telling.{is_of_imports, is_of_messages}
use Rattle.tb_orders.specs.declared.ending.Ending.{Ending}
use Rattle.tb_program.specs.declared.fault.Fault.{Fault}
use Rattle.tb_program.specs.declared.fault.Fault.TheVariants.{Bad, BadBody, Memory, NoAnswer, NoClock, NoKey, NoListen, NoPage, NotEmpty, NotOurs, ReadFailed, Store, WriteFailed, WrongVersion}
use Rattle.tb_values.proofs.Appends.{AppendsFront-none, Keeps-refl}
use Rattle.tb_values.specs.Appends.{AppendsFront}

-- ---- the calls that were made

-- a reply that couldn't be written is of a call that was answered, and no other fault is
pub written_or_none : (fault : Fault) → (fault ≡ WriteFailed) ⊎ ((fault ≢ WriteFailed) × (calls_made (Err fault) ≡ 0))
written_or_none Bad = inr ((λ e. absurd (cc)), refl)
written_or_none BadBody = inr ((λ e. absurd (cc)), refl)
written_or_none Memory = inr ((λ e. absurd (cc)), refl)
written_or_none NoClock = inr ((λ e. absurd (cc)), refl)
written_or_none NoListen = inr ((λ e. absurd (cc)), refl)
written_or_none NoAnswer = inr ((λ e. absurd (cc)), refl)
written_or_none NoKey = inr ((λ e. absurd (cc)), refl)
written_or_none NoPage = inr ((λ e. absurd (cc)), refl)
written_or_none NotEmpty = inr ((λ e. absurd (cc)), refl)
written_or_none NotOurs = inr ((λ e. absurd (cc)), refl)
written_or_none ReadFailed = inr ((λ e. absurd (cc)), refl)
written_or_none Store = inr ((λ e. absurd (cc)), refl)
written_or_none WriteFailed = inl refl
written_or_none WrongVersion = inr ((λ e. absurd (cc)), refl)

-- the store alone may have failed at one call more than were answered
pub made_exactly : (r : Result Ending Fault) (c : Call) → length (made_of r c) ≤ calls_made r + more_by r
made_exactly (Ok ending) c = omega arith
made_exactly (Err Bad) c = omega arith
made_exactly (Err BadBody) c = omega arith
made_exactly (Err Memory) c = omega arith
made_exactly (Err NoClock) c = omega arith
made_exactly (Err NoListen) c = omega arith
made_exactly (Err NoAnswer) c = omega arith
made_exactly (Err NoKey) c = omega arith
made_exactly (Err NoPage) c = omega arith
made_exactly (Err NotEmpty) c = omega arith
made_exactly (Err NotOurs) c = omega arith
made_exactly (Err ReadFailed) c = omega arith
made_exactly (Err Store) c = omega arith
made_exactly (Err WriteFailed) c = omega arith
made_exactly (Err WrongVersion) c = omega arith

pub made_first : (b : Bool) (m : Message) (at : ℕ) (c : Call) → AsksFor m at c → AreFirst (m ∷ []) at (if b then c ∷ [] else [])
made_first true m at c asks = (asks, tt)
made_first false m at c asks = tt

are_made : (given : ℕ → Type 0) (b : Bool) (order : ImportOrder) (input : Option (List ℕ)) (c : Call) → IsAskedBy given order input c → AreMade given b order input (if b then c ∷ [] else [])
are_made given true order input c asked = (c, asked, refl)
are_made given false order input c asked = refl

-- a call that was answered, whether its reply could be written or not
pub answered_one : (r : Result Ending Fault) (s : State) (c : Call) (now stops : State → Type 0) → IfErr r (λ fault. fault ≡ WriteFailed)
    → StandsAfter s (c ∷ []) 1 now stops → StandsAfter s (made_of r c) (calls_made r) now stops
answered_one (Ok ending) s c now stops unwritten stood = stood
answered_one (Err fault) s c now stops unwritten stood = subst (λ f. StandsAfter s (made_of (Err f) c) (calls_made (Err f)) now stops) (sym unwritten) stood

-- a call that the desk couldn't answer: for want of memory it did nothing
pub unanswered_one : (why : KeepFault) (fault : Fault) (s : State) (c : Call) (now stops : State → Type 0) → fault ≡ fault_of_keep why
    → StandsAfter s (c ∷ []) 0 now stops → (why ≡ keep.Memory → now s × Only s stops) → StandsAfter s (made_of (Err fault) c) (calls_made (Err fault)) now stops
unanswered_one keep.Memory fault s c now stops is stood idle =
    let was = idle refl in
    subst (λ f. StandsAfter s (made_of (Err f) c) (calls_made (Err f)) now stops) (sym is) (none_made s now stops was.0 was.1)
unanswered_one keep.Store fault s c now stops is stood idle = subst (λ f. StandsAfter s (made_of (Err f) c) (calls_made (Err f)) now stops) (sym is) stood

-- a store that answers that memory is wanting hasn't failed
pub fine_at : (failed : Bool) (why : KeepFault) (r : Result Reply KeepFault) → r ≡ Err why → failed ≡ is_store r → why ≡ keep.Memory → failed ≡ false
fine_at failed why r is told e = told ∙ ap (λ (x : Result Reply KeepFault). is_store x) (is ∙ ap Err e)

-- ---- what is printed

pub silent_front : (s : State) (calls : List Call) (n : ℕ) (before after : Option (List ℕ)) → n ≡ 0 → Keeps before after
    → AppendsFront before after (lines_text (replies_to s (take n calls)))
silent_front s calls n before after none keeps =
    subst (λ k. AppendsFront before after (lines_text (replies_to s (take k calls)))) (sym none) (AppendsFront-none before after [] keeps)

-- of one call
pub told_one : (r : Result Ending Fault) (s : State) (c : Call) (a b : Option (List ℕ)) → OnOk r (Appends a b (line_text (reply s [] c)))
    → OnOk r (Appends a b (lines_text (replies_to s (made_of r c))))
told_one (Ok ending) s c a b told = subst (Appends a b) (sym (append-nil (line_text (reply s [] c)))) told
told_one (Err fault) s c a b told = tt

-- of one call, where it failed
pub front_of : {W : Type 0} (contents : W → Option (List ℕ)) (r : Result Ending Fault) (s : State) (c : Call) (before after : W)
    → IfErr r (λ fault. fault ≢ WriteFailed → after ≡ before)
    → OnErr r (AppendsFront (contents before) (contents after) (line_text (reply s [] c)))
    → OnErr r (AppendsFront (contents before) (contents after) (lines_text (replies_to s (take (calls_made r) (made_of r c)))))
front_of contents (Ok ending) s c before after silent front = tt
front_of contents (Err fault) s c before after silent front =
    elim (written_or_none fault) [
      | inl is ↦
          let text = subst (AppendsFront (contents before) (contents after)) (sym (append-nil (line_text (reply s [] c)))) front in
          subst (λ f. AppendsFront (contents before) (contents after) (lines_text (replies_to s (take (calls_made (Err f)) (made_of (Err f) c))))) (sym is) text
      | inr none ↦
          let same = subst (λ w. Keeps (contents before) (contents w)) (sym (silent none.0)) (Keeps-refl (contents before)) in
          silent_front s (made_of (Err fault) c) (calls_made (Err fault)) (contents before) (contents after) none.1 same
    ]

-- ---- of an input

-- an input that came to no call
pub none_done : (given : ℕ → Type 0) (order : ImportOrder) (input : Option (List ℕ)) (s : State) (fault : Fault) (honest : Bool) (now stops : State → Type 0) (before : Option (List ℕ))
    → may_act (Err fault) ≡ false → calls_made (Err fault) ≡ 0 → now s → Only s stops → Does given order input s (Err fault) honest now stops before before
none_done given order input s fault honest now stops before not none held only = record {
  calls = [];
  made = subst (λ b. AreMade given b order input []) (sym not) refl;
  stands = subst (λ n. StandsAfter s [] n now stops) (sym none) (none_made s now stops held only);
  told = λ so. tt;
  front = λ so. silent_front s [] (calls_made (Err fault)) before before none (Keeps-refl before);
}

-- what the import of an input has done, by what that of its text promises
pub done_by : {D W : Type 0} (contents : W → Option (List ℕ)) (given : ℕ → Type 0) (r : Result Ending Fault) (order : ImportOrder) (text : List ℕ) (m : Message) (at : ℕ)
    (input : Option (List ℕ)) (s : State) (honest : Bool) (holds stops : D → State → Type 0) (old new : D) (before after : W)
    → given at → m ≡ message_of order text → IfSome input (λ all. text ≡ all)
    → (honest ≡ true → (call : Call) → AsksFor m at call → OnOk r (Appends (contents before) (contents after) (line_text (reply s [] call))))
    → (honest ≡ true → (call : Call) → AsksFor m at call → OnErr r (AppendsFront (contents before) (contents after) (line_text (reply s [] call))))
    → IfErr r (λ fault. fault ≢ WriteFailed → after ≡ before)
    → ((call : Call) → AsksFor m at call → StandsAfter s (made_of r call) (calls_made r) (holds new) (stops new))
    → (((call : Call) → AsksFor m at call → ⊥) → ((r ≡ Err BadBody) ⊎ (r ≡ Err Memory)) × (new ≡ old) × (after ≡ before))
    → holds old s → Only s (stops old) → Does given order input s r honest (holds new) (stops new) (contents before) (contents after)
done_by contents given r order text m at input s honest holds stops old new before after gave is whole told front silent stands unasked held only =
    elim (asks_or_not m at) [
      | inl made ↦
          let asked : IsAskedBy given order input made.0 = record { text = text; at = at; gave = gave; whole = whole; asked = subst (λ x. AsksFor x at made.0) is made.1 } in
          record {
            calls = made_of r made.0;
            made = are_made given (may_act r) order input made.0 asked;
            stands = stands made.0 made.1;
            told = λ so. told_one r s made.0 (contents before) (contents after) (told so made.0 made.1);
            front = λ so. front_of contents r s made.0 before after silent (front so made.0 made.1);
          }
      | inr none ↦ unmade (unasked none)
    ]
  where
    at_fault : (fault : Fault) → r ≡ Err fault → may_act (Err fault) ≡ false → calls_made (Err fault) ≡ 0 → new ≡ old → after ≡ before
        → Does given order input s r honest (holds new) (stops new) (contents before) (contents after)
    at_fault fault e not none same kept =
        subst (λ x. Does given order input s x honest (holds new) (stops new) (contents before) (contents after)) (sym e)
        (subst (λ d. Does given order input s (Err fault) honest (holds d) (stops d) (contents before) (contents after)) (sym same)
        (subst (λ w. Does given order input s (Err fault) honest (holds old) (stops old) (contents before) (contents w)) (sym kept)
        (none_done given order input s fault honest (holds old) (stops old) (contents before) not none held only)))

    unmade : ((r ≡ Err BadBody) ⊎ (r ≡ Err Memory)) × (new ≡ old) × (after ≡ before) → Does given order input s r honest (holds new) (stops new) (contents before) (contents after)
    unmade why = elim why.0 [
      | inl e ↦ at_fault BadBody e refl refl why.1 why.2
      | inr e ↦ at_fault Memory e refl refl why.1 why.2
    ]

-- what an input couldn't be made into a message for, made no call
pub unread_acts_not : (fault : Fault) → is_of_messages fault ≡ true → (may_act (Err fault) ≡ false) × (calls_made (Err fault) ≡ 0)
unread_acts_not Bad is = (refl, refl)
unread_acts_not BadBody is = (refl, refl)
unread_acts_not Memory is = (refl, refl)
unread_acts_not NoClock is = (refl, refl)
unread_acts_not NoListen is = (refl, refl)
unread_acts_not NoAnswer is = (refl, refl)
unread_acts_not NoKey is = (refl, refl)
unread_acts_not NoPage is = (refl, refl)
unread_acts_not NotEmpty is = (refl, refl)
unread_acts_not NotOurs is = (refl, refl)
unread_acts_not ReadFailed is = (refl, refl)
unread_acts_not Store is = absurd (true≢false (sym is))
unread_acts_not WriteFailed is = absurd (true≢false (sym is))
unread_acts_not WrongVersion is = (refl, refl)

-- the import of a text fails for neither its reading nor the clock
pub read_by_then : (fault : Fault) → is_of_imports fault ≡ true → is_unread fault ≡ false
read_by_then Bad is = refl
read_by_then BadBody is = refl
read_by_then Memory is = refl
read_by_then NoClock is = absurd (true≢false (sym is))
read_by_then NoListen is = refl
read_by_then NoAnswer is = refl
read_by_then NoKey is = refl
read_by_then NoPage is = refl
read_by_then NotEmpty is = refl
read_by_then NotOurs is = refl
read_by_then ReadFailed is = absurd (true≢false (sym is))
read_by_then Store is = refl
read_by_then WriteFailed is = refl
read_by_then WrongVersion is = refl
