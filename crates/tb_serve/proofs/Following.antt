-- What stands in a desk follows from what stood in it before.
use Rattle.std.proofs.Common.{◌≡◌, ℕ, suc, ◌+◌, ◌≤◌, Bool, true, false, List, [], ◌∷◌, ◌++◌, length, take, Option, Some, None, Result, Ok, Err, sym, ap, ◌∙◌, subst, arith}
use Rattle.std.specs.Prelude.{IfErr}
use Rattle.std.proofs.lemmas.List.{length-append}
use Rattle.tb_calls.specs.declared.call.Call.{Call}
use Rattle.tb_calls.specs.declared.fault.KeepFault.TheVariants as keep
use Rattle.tb_calls.specs.Call.{State}
use Rattle.tb_calls.specs.Leaving.{IsAfterSome, Only, StandsAfter}
use Rattle.tb_desk.proofs.Runs.{after_all-append}
use Rattle.tb_asking.specs.declared.asked.Asked.{Asked}
use Rattle.tb_asking.specs.declared.asked.Asked.TheVariants as some
use Rattle.tb_asking.specs.declared.rejection.Rejection.{Rejection}
use Rattle.tb_asking.specs.Asking.{asked_of}
use Rattle.tb_http.specs.declared.fault.WireFault.{WireFault}
use Rattle.tb_http.specs.declared.message.Message.{Message}
use Rattle.tb_serve.specs.Exchanging.{outcome}
use Rattle.tb_serve.specs.Following.{Follows, has_stopped}
use Rattle.tb_serve.specs.declared.serving.ServeFault.{ServeFault}
use Rattle.tb_serve.specs.declared.serving.ServeFault.TheVariants.{ReadFailed, WriteFailed, Store, Memory}
use Rattle.tb_serve.specs.declared.serving.MessageOutcome.{MessageOutcome}
use Rattle.tb_serve.specs.declared.serving.MessageOutcome.TheVariants.{Replied, Failed, Unread}
use Rattle.tb_serve.specs.Serving.{Settles}
use Rattle.tb_serve.specs.Telling.{StandsAt, after, called_by, calls_in}

pub unchanged : (now stops : State → Type 0) → Follows false now stops now stops
unchanged now stops s held only = ([], record { held = held; stops = only })

take_behind : (xs ys : List Call) (j : ℕ) → take (length xs + j) (xs ++ ys) ≡ xs ++ take j ys
take_behind [] ys j =
    let none : length {A = Call} [] + j ≡ j = omega arith in
    ap (λ n. take n ys) none
take_behind (x ∷ xs) ys j =
    let more : length (x ∷ xs) + j ≡ suc (length xs + j) = omega arith in
    ap (λ n. take n (x ∷ (xs ++ ys))) more ∙ ap (λ l. x ∷ l) (take_behind xs ys j)

-- calls behind those that stand
some_behind : (s : State) (xs ys : List Call) (answered : ℕ) (t : State) → IsAfterSome (after s xs) ys answered t → IsAfterSome s (xs ++ ys) (length xs + answered) t
some_behind s xs ys answered t is = (
  length xs + is.0,
  omega (arith, is.1),
  omega (arith, is.2),
  is.3 ∙ sym (after_all-append s xs (take is.0 ys)) ∙ ap (λ cs. after s cs) (sym (take_behind xs ys is.0)),
)

pub stands_behind : (s : State) (xs ys : List Call) (answered : ℕ) (now stops : State → Type 0) → StandsAfter (after s xs) ys answered now stops → StandsAfter s (xs ++ ys) (length xs + answered) now stops
stands_behind s xs ys answered now stops stood = record {
  held = (stood.held.0, stood.held.1, some_behind s xs ys answered stood.held.0 stood.held.2);
  stops = λ t left. some_behind s xs ys answered t (stood.stops t left);
}

pub joined : (stopped : Bool) (old old_stops mid mid_stops now stops : State → Type 0)
    → Follows false old old_stops mid mid_stops → Follows stopped mid mid_stops now stops → Follows stopped old old_stops now stops
joined false old old_stops mid mid_stops now stops first second = λ s held only.
    let one = first s held only in
    let two = second (after s one.0) one.1.held one.1.stops in
    (one.0 ++ two.0, subst (λ (t : State). StandsAt t now stops) (sym (after_all-append s one.0 two.0)) two.1)
joined true old old_stops mid mid_stops now stops first second = λ s held only.
    let one = first s held only in
    let two = second (after s one.0) one.1.held one.1.stops in
    let count : length (one.0 ++ two.0) ≤ (length one.0 + two.1) + 1 = simp length-append (omega (arith, two.2)) in
    (one.0 ++ two.0, length one.0 + two.1, count, stands_behind s one.0 two.0 two.1 now stops two.3)

-- a message asks for one call at most
called_few : (asked : Result Asked Rejection) → length (called_by asked) ≤ 1
called_few (Ok (some.Call call)) = omega arith
called_few (Ok (some.View sender view)) = omega arith
called_few (Ok some.Unknown) = omega arith
called_few (Err rejection) = omega arith

calls_few : (message : Message) (at : Option ℕ) → length (calls_in message at) ≤ 1
calls_few message None = omega arith
calls_few message (Some at) = called_few (asked_of message at)

-- a message that was read, whatever it was told
pub settles_follows : (turn : MessageOutcome) (is_whole : Bool) (at : Option ℕ) (message : Message) (old old_stops now stops : State → Type 0)
    → ((s : State) → old s → Only s old_stops → Settles s at message turn now stops) → Follows (has_stopped (outcome turn is_whole)) old old_stops now stops
settles_follows Replied true at message old old_stops now stops settles = λ s held only. (calls_in message at, settles s held only)
settles_follows Replied false at message old old_stops now stops settles = λ s held only. (calls_in message at, settles s held only)
settles_follows (Failed keep.Memory) true at message old old_stops now stops settles = λ s held only. ([], settles s held only)
settles_follows (Failed keep.Memory) false at message old old_stops now stops settles = λ s held only. ([], settles s held only)
settles_follows (Failed keep.Store) is_whole at message old old_stops now stops settles = λ s held only.
    (calls_in message at, 0, calls_few message at, settles s held only)
settles_follows (Unread fault) true at message old old_stops now stops settles = λ s held only. absurd (settles s held only)
settles_follows (Unread fault) false at message old old_stops now stops settles = λ s held only. absurd (settles s held only)

-- ---- nothing was done to the desk

pub same_desk : {D : Type 0} (holds after_stop : D → State → Type 0) (d e : D) → e ≡ d → Follows false (holds d) (after_stop d) (holds e) (after_stop e)
same_desk {D = D} holds after_stop d e is =
    subst (λ (x : D). Follows false (holds d) (after_stop d) (holds x) (after_stop x)) (sym is) (unchanged (holds d) (after_stop d))

pub unread_follows : (fault : WireFault) (is_whole : Bool) (now stops : State → Type 0) → Follows (has_stopped (outcome (Unread fault) is_whole)) now stops now stops
unread_follows fault true now stops = unchanged now stops
unread_follows fault false now stops = unchanged now stops

-- without memory nothing ends but the connection
pub memory_follows : {T : Type 0} (r : Result T ServeFault) (now stops : State → Type 0) → IfErr r (λ fault. fault ≡ Memory) → Follows (has_stopped r) now stops now stops
memory_follows (Ok x) now stops memory = unchanged now stops
memory_follows (Err ReadFailed) now stops memory = unchanged now stops
memory_follows (Err WriteFailed) now stops memory = unchanged now stops
memory_follows (Err Store) now stops memory = absurd (cc)
memory_follows (Err Memory) now stops memory = unchanged now stops
