use Rattle.std.proofs.Common.{◌≡◌, true, take, length}
use Rattle.tb_calls.specs.Call.{State, plain, once, replies_to}
use Rattle.tb_calls.specs.Leaving.{Only}
use Rattle.tb_desk.proofs.desk.Desk.run.Given as goal

-- so far: a reply to each call handled, and the state after these calls
abbrev pub invariant-loop-call : goal.invariant-loop-call
invariant-loop-call g l =
    let k = g.K.Keep in
    let first = l.fn.self in
    let handled = take l.call-index l.calls in
    record {
      count : length l.replies.items ≡ l.call-index;
      told : k.is_honest l.self ≡ true → (s : State) → k.holds first s → l.replies.items ≡ replies_to s handled;
      held : (s : State) → k.holds first s → k.holds l.self (plain s (once s handled));
      only : (s : State) → k.holds first s → Only s (k.after_stop first) → Only (plain s (once s handled)) (k.after_stop l.self);
      honest : k.is_honest l.self ≡ true → k.is_honest first ≡ true;
      closed : k.has_failed first ≡ true → l.call-index ≡ 0;
      failing : k.has_failed l.self ≡ k.has_failed first;
      still : k.has_failed first ≡ true → (s : State) → k.holds first s → k.holds l.self s;
      stops : k.has_failed first ≡ true → (s t : State) → k.holds first s → k.after_stop l.self t → k.after_stop first t;
    }
