-- Runs of parts, by what the import of each promises.
use Rattle.std.proofs.Common.{◌≡◌, ◌≢◌, ◌⊎◌, ◌∙◌, ◌+◌, ◌==◌, ℕ, zero, suc, Bool, true, false, if◌then◌else◌, List, [], ◌∷◌, ◌++◌, length, take, Option, Some, None, IfErr, IfOk, IfSome, OnErr, OnOk, Result, Ok, Err, add-one, ap, append_assoc, arith, inl, inr, refl, subst, sym}
use Rattle.std.proofs.lemmas.List.{append-nil}
use Rattle.std.specs.Io.KnownBytes.{Appends}
use Rattle.tb_calls.specs.Call.{State, replies_after, replies_to, reply, told_in}
use Rattle.tb_calls.specs.Leaving.{IsAfterSome, Only, StandsAfter}
use Rattle.tb_calls.specs.declared.call.Call.{Call}
use Rattle.tb_command_line.specs.declared.order.ImportOrder.{ImportOrder}
use Rattle.tb_desk.proofs.Runs.{after_all, after_all-append}
use Rattle.tb_http.specs.declared.message.Message.{Message}
use Rattle.tb_orders.proofs.Doing.{front_of, made_exactly, made_first, silent_front, told_one}
use Rattle.tb_orders.proofs.Inputs.{asks_or_not, none_made}
use Rattle.tb_orders.specs.Doing.{made_of, may_act}
use Rattle.tb_orders.specs.Orders.{AsksFor, calls_made, ending_of, line_text}
use Rattle.tb_orders.specs.Running.{AreFirst, IsRun, IsRunOf, ends_as, is_refused, lines_text, messages_behind, part_message}
use Rattle.tb_orders.specs.declared.ending.Ending.{Ending}
use Rattle.tb_orders.specs.declared.ending.Ending.TheVariants.{Accepted, Refused}
use Rattle.tb_program.specs.declared.fault.Fault.{Fault}
use Rattle.tb_program.specs.declared.fault.Fault.TheVariants.{BadBody, Memory, WriteFailed}
use Rattle.tb_calls.specs.declared.reply.Reply.{Reply}
use Rattle.tb_values.proofs.Appends.{Appends-nil, Appends-then, AppendsFront-then, Keeps-refl}
use Rattle.tb_values.specs.Appends.{AppendsFront}

-- ---- replies and states after a first call

replies-on : (s : State) (xs ys cs : List Call) → replies_after s (xs ++ ys) cs ≡ replies_after (after_all s xs) ys cs
replies-on s xs ys [] = refl
replies-on s xs ys (c ∷ cs) =
    ap (λ t. told_in t c ∷ replies_after s ((xs ++ ys) ++ c ∷ []) cs) (after_all-append s xs ys)
    ∙ ap (λ b. told_in (after_all (after_all s xs) ys) c ∷ replies_after s b cs) (append_assoc xs ys (c ∷ []))
    ∙ ap (λ rs. told_in (after_all (after_all s xs) ys) c ∷ rs) (replies-on s xs (ys ++ c ∷ []) cs)

replies_more : (s : State) (c : Call) (cs : List Call) → replies_to s (c ∷ cs) ≡ reply s [] c ∷ replies_to (after_all s (c ∷ [])) cs
replies_more s c cs = ap (λ rs. reply s [] c ∷ rs) (replies-on s (c ∷ []) [] cs)

stands_behind : (s : State) (c : Call) (cs : List Call) (n : ℕ) (now stops : State → Type 0)
    → StandsAfter (after_all s (c ∷ [])) cs n now stops → StandsAfter s (c ∷ cs) (n + 1) now stops
stands_behind s c cs n now stops stood =
    record { held = (stood.held.0, stood.held.1, moved stood.held.0 stood.held.2); stops = λ t left. moved t (stood.stops t left) }
  where
    moved : (u : State) → IsAfterSome (after_all s (c ∷ [])) cs n u → IsAfterSome s (c ∷ cs) (n + 1) u
    moved u (j, low, high, same) = (suc j, omega arith, omega arith, same ∙ sym (after_all-append s (c ∷ []) (take j cs)))

-- an answered call has one state behind it
answered_once : (s : State) (c : Call) (t : State) → IsAfterSome s (c ∷ []) 1 t → t ≡ after_all s (c ∷ [])
answered_once s c t (zero, low, high, same) = absurd (omega arith)
answered_once s c t (suc zero, low, high, same) = same
answered_once s c t (suc (suc j), low, high, same) = same

-- ---- what is told

told_more : (r : Result Ending Fault) (a b c : Option (List ℕ)) (xs ys : List ℕ) → Appends a b xs → OnOk r (Appends b c ys) → OnOk r (Appends a c (xs ++ ys))
told_more (Ok ending) a b c xs ys first rest = Appends-then a b c xs ys first rest
told_more (Err fault) a b c xs ys first rest = tt

front_more : (r : Result Ending Fault) (a b c : Option (List ℕ)) (xs ys : List ℕ) → Appends a b xs → OnErr r (AppendsFront b c ys) → OnErr r (AppendsFront a c (xs ++ ys))
front_more (Ok ending) a b c xs ys first rest = tt
front_more (Err fault) a b c xs ys first rest = AppendsFront-then a b c xs ys first rest

-- the replies to the first calls, and one call before them
replies_first : (s : State) (c : Call) (cs : List Call) (n : ℕ) → replies_to s (take (n + 1) (c ∷ cs)) ≡ reply s [] c ∷ replies_to (after_all s (c ∷ [])) (take n cs)
replies_first s c cs n = ap (λ k. replies_to s (take k (c ∷ cs))) (add-one n) ∙ replies_more s c (take n cs)

is_then : (b : Bool) → (if b then true else false) ≡ true → b ≡ true
is_then true is = refl
is_then false is = is

ends_more : (r : Result Ending Fault) (x : Reply) (rs : List Reply) → ends_as (x ∷ []) Accepted ≡ true
    → IfOk r (λ ending. ends_as rs ending ≡ true) → IfOk r (λ ending. ends_as (x ∷ rs) ending ≡ true)
ends_more (Ok ending) x rs first rest = rw (is_then (x.number == 0) first) rest
ends_more (Err fault) x rs first rest = tt

ends_at : (b : Bool) → (if b then ends_as [] (if b then Accepted else Refused) else is_refused [] (if b then Accepted else Refused)) ≡ true
ends_at true = refl
ends_at false = refl

ends_one : (r : Result Ending Fault) (s : State) (c : Call) → IfOk r (λ ending. ending ≡ ending_of (reply s [] c))
    → IfOk r (λ ending. ends_as (replies_to s (made_of r c)) ending ≡ true)
ends_one (Ok ending) s c is = subst (λ e. ends_as (reply s [] c ∷ []) e ≡ true) (sym is) (ends_at ((reply s [] c).number == 0))
ends_one (Err fault) s c is = tt

done_one : (r : Result Ending Fault) (c : Call) → OnOk r (calls_made r ≡ length (made_of r c))
done_one (Ok ending) c = refl
done_one (Err fault) c = tt

done_more : (r : Result Ending Fault) (n m : ℕ) → OnOk r (n ≡ m) → OnOk r (n + 1 ≡ suc m)
done_more (Ok ending) n m is = omega (arith, is)
done_more (Err fault) n m is = tt

-- ---- runs

-- of no call
pub none_run : (messages : List Message) (at : ℕ) (s : State) (fault : Fault) (honest : Bool) (now stops : State → Type 0) (before : Option (List ℕ))
    → now s → Only s stops → IsRun messages at s (Err fault) honest now stops before before
none_run messages at s fault honest now stops before held only = record {
  calls = [];
  answered = 0;
  asked = tt;
  stands = none_made s now stops held only;
  exact = omega arith;
  done = tt;
  all = λ e. absurd (cc);
  told = λ so. tt;
  ends = λ so. tt;
  front = λ so. silent_front s [] 0 before before refl (Keeps-refl before);
}

-- of no message
pub end_run : (order : ImportOrder) (n : ℕ) (parts : List (List ℕ)) (at : ℕ) (s : State) (honest : Bool) (now stops : State → Type 0) (before : Option (List ℕ))
    → length parts ≡ 0 → now s → Only s stops → IsRun (messages_behind order n parts) at s (Ok Accepted) honest now stops before before
end_run order n [] at s honest now stops before none held only = record {
  calls = [];
  answered = 0;
  asked = tt;
  stands = none_made s now stops held only;
  exact = omega arith;
  done = refl;
  all = λ e. refl;
  told = λ so. Appends-nil before;
  ends = λ so. refl;
  front = λ so. tt;
}
end_run order n (part ∷ parts) at s honest now stops before none held only = absurd (omega arith)

-- of one message
pub one_run : {D W : Type 0} (contents : W → Option (List ℕ)) (r : Result Ending Fault) (m : Message) (at : ℕ) (s : State) (honest : Bool) (holds stops : D → State → Type 0) (old new : D)
    (before after : W)
    → (honest ≡ true → (call : Call) → AsksFor m at call → OnOk r (Appends (contents before) (contents after) (line_text (reply s [] call))))
    → (honest ≡ true → (call : Call) → AsksFor m at call → IfOk r (λ ending. ending ≡ ending_of (reply s [] call)))
    → (honest ≡ true → (call : Call) → AsksFor m at call → OnErr r (AppendsFront (contents before) (contents after) (line_text (reply s [] call))))
    → IfErr r (λ fault. fault ≢ WriteFailed → after ≡ before)
    → ((call : Call) → AsksFor m at call → StandsAfter s (made_of r call) (calls_made r) (holds new) (stops new))
    → (((call : Call) → AsksFor m at call → ⊥) → ((r ≡ Err BadBody) ⊎ (r ≡ Err Memory)) × (new ≡ old) × (after ≡ before))
    → holds old s → Only s (stops old) → IsRun (m ∷ []) at s r honest (holds new) (stops new) (contents before) (contents after)
one_run contents r m at s honest holds stops old new before after told ends front silent stands unasked held only =
    elim (asks_or_not m at) [
      | inl made ↦ record {
        calls = made_of r made.0;
        answered = calls_made r;
        asked = made_first (may_act r) m at made.0 made.1;
        stands = stands made.0 made.1;
        exact = made_exactly r made.0;
        done = done_one r made.0;
        all = λ e. ap (λ x. length (made_of x made.0)) e;
        told = λ so. told_one r s made.0 (contents before) (contents after) (told so made.0 made.1);
        ends = λ so. ends_one r s made.0 (ends so made.0 made.1);
        front = λ so. front_of contents r s made.0 before after silent (front so made.0 made.1);
      }
      | inr none ↦ unmade (unasked none)
    ]
  where
    at_fault : (fault : Fault) → r ≡ Err fault → new ≡ old → after ≡ before → IsRun (m ∷ []) at s r honest (holds new) (stops new) (contents before) (contents after)
    at_fault fault is same kept =
        subst (λ x. IsRun (m ∷ []) at s x honest (holds new) (stops new) (contents before) (contents after)) (sym is)
        (subst (λ d. IsRun (m ∷ []) at s (Err fault) honest (holds d) (stops d) (contents before) (contents after)) (sym same)
        (subst (λ w. IsRun (m ∷ []) at s (Err fault) honest (holds old) (stops old) (contents before) (contents w)) (sym kept)
        (none_run (m ∷ []) at s fault honest (holds old) (stops old) (contents before) held only)))

    unmade : ((r ≡ Err BadBody) ⊎ (r ≡ Err Memory)) × (new ≡ old) × (after ≡ before) → IsRun (m ∷ []) at s r honest (holds new) (stops new) (contents before) (contents after)
    unmade why = elim why.0 [ inl is ↦ at_fault BadBody is why.1 why.2 | inr is ↦ at_fault Memory is why.1 why.2 ]

first_of_more : (m : Message) (ms : List Message) (at : ℕ) (calls : List Call) → AreFirst (m ∷ []) at calls → AreFirst (m ∷ ms) at calls
first_of_more m ms at [] asked = tt
first_of_more m ms at (c ∷ []) asked = (asked.0, tt)
first_of_more m ms at (c ∷ d ∷ cs) asked = absurd asked.1

-- one that ended before the others
pub cut_run : (m : Message) (ms : List Message) (at : ℕ) (s : State) (r : Result Ending Fault) (honest : Bool) (now stops : State → Type 0) (before after : Option (List ℕ))
    → r ≢ Ok Accepted → IsRun (m ∷ []) at s r honest now stops before after → IsRun (m ∷ ms) at s r honest now stops before after
cut_run m ms at s r honest now stops before after apart run = record {
  calls = run.calls;
  answered = run.answered;
  asked = first_of_more m ms at run.calls run.asked;
  stands = run.stands;
  exact = run.exact;
  done = run.done;
  all = λ e. absurd (apart e);
  told = run.told;
  ends = run.ends;
  front = run.front;
}

-- one, and then others
pub then_run : (m : Message) (ms : List Message) (at : ℕ) (s : State) (r : Result Ending Fault) (first last : Bool)
    (mid mid_stops now stops : State → Type 0) (a b c : Option (List ℕ)) → (last ≡ true → first ≡ true)
    → IsRun (m ∷ []) at s (Ok Accepted) first mid mid_stops a b
    → ((t : State) → mid t → Only t mid_stops → IsRun ms at t r last now stops b c)
    → IsRun (m ∷ ms) at s r last now stops a c
then_run m ms at s r first last mid mid_stops now stops a b c honest run next =
    by run.calls run.asked (subst (λ n. StandsAfter s run.calls n mid mid_stops) run.done run.stands) (run.all refl) run.told run.ends
  where
    by : (calls : List Call) → AreFirst (m ∷ []) at calls → StandsAfter s calls (length calls) mid mid_stops → length calls ≡ 1
        → (first ≡ true → Appends a b (lines_text (replies_to s calls))) → (first ≡ true → ends_as (replies_to s calls) Accepted ≡ true)
        → IsRun (m ∷ ms) at s r last now stops a c
    by [] asked stood one told ends = absurd (omega arith)
    by (x ∷ y ∷ calls) asked stood one told ends = absurd asked.1
    by (x ∷ []) asked stood one told ends =
        let t = after_all s (x ∷ []) in
        let held = subst mid (answered_once s x stood.held.0 stood.held.2) stood.held.1 in
        let rest = next t held (λ u left. answered_once s x u (stood.stops u left)) in
        record {
          calls = x ∷ rest.calls;
          answered = rest.answered + 1;
          asked = (asked.0, rest.asked);
          stands = stands_behind s x rest.calls rest.answered now stops rest.stands;
          exact = omega (arith, rest.exact);
          done = done_more r rest.answered (length rest.calls) rest.done;
          all = λ e. ap suc (rest.all e);
          told = λ so.
              subst (λ rs. OnOk r (Appends a c (lines_text rs))) (sym (replies_more s x rest.calls))
              (told_more r a b c (line_text (reply s [] x)) (lines_text (replies_to t rest.calls))
              (subst (Appends a b) (append-nil (line_text (reply s [] x))) (told (honest so))) (rest.told so));
          ends = λ so.
              subst (λ rs. IfOk r (λ ending. ends_as rs ending ≡ true)) (sym (replies_more s x rest.calls))
              (ends_more r (reply s [] x) (replies_to t rest.calls) (ends (honest so)) (rest.ends so));
          front = λ so.
              subst (λ rs. OnErr r (AppendsFront a c (lines_text rs))) (sym (replies_first s x rest.calls rest.answered))
              (front_more r a b c (line_text (reply s [] x)) (lines_text (replies_to t (take rest.answered rest.calls)))
              (subst (Appends a b) (append-nil (line_text (reply s [] x))) (told (honest so))) (rest.front so));
        }

-- ---- of parts

pub cut_parts : (order : ImportOrder) (n : ℕ) (parts : List (List ℕ)) (part : List ℕ) (rest : List (List ℕ)) (at : ℕ) (s : State) (r : Result Ending Fault)
    (honest : Bool) (now stops : State → Type 0) (before after : Option (List ℕ)) → parts ≡ part ∷ rest → r ≢ Ok Accepted
    → IsRun (part_message order (n + 1) part ∷ []) at s r honest now stops before after → IsRun (messages_behind order n parts) at s r honest now stops before after
cut_parts order n parts part rest at s r honest now stops before after is apart run =
    subst (λ ps. IsRun (messages_behind order n ps) at s r honest now stops before after) (sym is)
    (cut_run (part_message order (n + 1) part) (messages_behind order (n + 1) rest) at s r honest now stops before after apart run)

pub then_parts : (order : ImportOrder) (n : ℕ) (parts : List (List ℕ)) (part : List ℕ) (rest : List (List ℕ)) (at : ℕ) (s : State) (r : Result Ending Fault)
    (first last : Bool) (mid mid_stops now stops : State → Type 0) (a b c : Option (List ℕ)) → parts ≡ part ∷ rest → (last ≡ true → first ≡ true)
    → IsRun (part_message order (n + 1) part ∷ []) at s (Ok Accepted) first mid mid_stops a b
    → ((t : State) → mid t → Only t mid_stops → IsRun (messages_behind order (n + 1) rest) at t r last now stops b c)
    → IsRun (messages_behind order n parts) at s r last now stops a c
then_parts order n parts part rest at s r first last mid mid_stops now stops a b c is honest run next =
    subst (λ ps. IsRun (messages_behind order n ps) at s r last now stops a c) (sym is)
    (then_run (part_message order (n + 1) part) (messages_behind order (n + 1) rest) at s r first last mid mid_stops now stops a b c honest run next)

-- ---- of an input

-- the text of an input, or none where it isn't known
abbrev text_in : Option (List ℕ) → List ℕ
text_in None = []
text_in (Some text) = text

is_text_in : (input : Option (List ℕ)) → IfSome input (λ all. text_in input ≡ all)
is_text_in None = tt
is_text_in (Some text) = refl

-- an input that came to no parts
pub unread_run : (given : ℕ → Type 0) (order : ImportOrder) (input : Option (List ℕ)) (s : State) (fault : Fault) (honest : Bool) (now stops : State → Type 0) (before : Option (List ℕ))
    → now s → Only s stops → IsRunOf given order input s (Err fault) honest now stops before before
unread_run given order input s fault honest now stops before held only = record {
  text = text_in input;
  parts = [];
  at = 0;
  whole = is_text_in input;
  cut = inr (refl, refl);
  run = none_run [] 0 s fault honest now stops before held only;
}
