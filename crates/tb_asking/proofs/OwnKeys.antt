-- Messages of one content hold the same change of an own key, or none.
use Rattle.std.proofs.Common.{◌≡◌, ◌∙◌, ℕ, Bool, true, false, not, ◌==◌, cond, List, [], ◌∷◌, ◌++◌, codes, drop, Option, Some, None, Result, Ok, Err, refl, sym, ap}
use Rattle.std.proofs.lemmas.Bool.{and_parts}
use Rattle.std.proofs.lemmas.Slice.Eq.{bytes_eq-Decides}
use Rattle.tb_values.specs.Outcome.{◌>>=◌}
use Rattle.tb_todotxt.specs.Line.{is_free_of}
use Rattle.tb_core.specs.GoodLaws.{own_keys}
use Rattle.tb_core.specs.declared.command.BoardCommand.{BoardCommand}
use Rattle.tb_core.specs.declared.command.Command.{Command}
use Rattle.tb_core.specs.declared.command.Command.TheVariants as command
use Rattle.tb_calls.specs.declared.call.Call.{Call}
use Rattle.tb_calls.specs.declared.view.View.{View}
use Rattle.tb_calls.specs.declared.view.View.TheVariants as view
use Rattle.tb_http.specs.declared.kind.Kind.{Kind}
use Rattle.tb_http.specs.declared.message.Message.{Message}
use Rattle.tb_http.specs.declared.resource.CallTarget.{CallTarget}
use Rattle.tb_http.specs.declared.resource.CallTarget.TheVariants as target
use Rattle.tb_http.specs.declared.resource.Resource.{Resource}
use Rattle.tb_http.specs.declared.resource.Resource.TheVariants as resource
use Rattle.tb_http.specs.declared.resource.RouteFault.{RouteFault}
use Rattle.tb_http.specs.declared.resource.RouteFault.TheVariants.{NoMethod}
use Rattle.tb_http.specs.declared.route.Verb.TheVariants.{Post}
use Rattle.tb_http.specs.Message.{content_of}
use Rattle.tb_http.specs.Resource.{has_verb, on_route, resource_asked, resource_of, verb_of, with_method}
use Rattle.tb_http.specs.Route.{kind_of}
use Rattle.tb_http.specs.Sender.{request_id_of}
use Rattle.tb_asking.specs.declared.asked.Asked.{Asked}
use Rattle.tb_asking.specs.declared.asked.Asked.TheVariants as asked
use Rattle.tb_asking.specs.declared.asked.Sender.{Sender}
use Rattle.tb_asking.specs.declared.body_fault.BadBody.{BadBody}
use Rattle.tb_asking.specs.declared.rejection.Rejection.{Rejection}
use Rattle.tb_asking.specs.Asking.{asked_at, asked_of, asked_on, asked_under, board_view, call_from, sender_of, view_from}
use Rattle.tb_asking.specs.Bodies.{text_in}
use Rattle.tb_asking.specs.Command.{command_in, command_of, of_board, on_board, on_task}
use Rattle.tb_asking.specs.Rejection.{or_rejected}
use Rattle.tb_asking.specs.Laws.{OneChangeOfKey}

-- ---- what stands before the first line feed, and after it

heads : (x y : ℕ) (xs ys : List ℕ) → x ∷ xs ≡ y ∷ ys → (x ≡ y) × (xs ≡ ys)
heads x y xs ys e = (cc, cc)

no_feed : (c : ℕ) (cs : List ℕ) → is_free_of 10 (c ∷ cs) ≡ true → c ≡ 10 → ⊥
no_feed c cs free is = let feed : is_free_of 10 (10 ∷ cs) ≡ true = rw is at free in cc

parted : (t u b d : List ℕ) → is_free_of 10 t ≡ true → is_free_of 10 u ≡ true → t ++ (10 ∷ b) ≡ u ++ (10 ∷ d) → (t ≡ u) × (b ≡ d)
parted [] [] b d f g e = (refl, (heads 10 10 b d e).1)
parted [] (c ∷ u) b d f g e = absurd (no_feed c u g (sym (heads 10 c b (u ++ (10 ∷ d)) e).0))
parted (c ∷ t) [] b d f g e = absurd (no_feed c t f (heads c 10 (t ++ (10 ∷ b)) d e).0)
parted (c ∷ t) (x ∷ u) b d f g e =
    let parts = heads c x (t ++ (10 ∷ b)) (u ++ (10 ∷ d)) e in
    let rest = parted t u b d (and_parts (not (c == 10)) (is_free_of 10 t) f).1 (and_parts (not (x == 10)) (is_free_of 10 u) g).1 parts.1 in
    (ap (λ y. y ∷ t) parts.0 ∙ ap (λ ys. x ∷ ys) rest.0, rest.1)

-- ---- what a call was asked by

-- the message holds the call
record Holds (message : Message) (at : ℕ) (call : Call) (target : CallTarget) : Type 0 where
  command : command_in target (text_in message.body) at ≡ Ok call.command
  content : call.content ≡ content_of message

made : (message : Message) (id at : ℕ) (target : CallTarget) (r : Result Command BadBody) (s : Option Sender) (call : Call)
    → command_in target (text_in message.body) at ≡ r
    → (or_rejected r >>= (λ command. Ok (call_from message id at command s))) ≡ Ok (asked.Call call) → Holds message at call target
made message id at target (Err fault) s call is e = absurd (cc)
made message id at target (Ok command) None call is e = absurd (cc)
made message id at target (Ok command) (Some s) call is e =
    let sent : Call = record { member = s.name; key = s.key; id = id; moment = at; content = content_of message; command = command } in
    let one : sent ≡ call = cc in
    record { command = is ∙ ap (λ (c : Call). Ok c.command) one; content = sym (ap (λ (c : Call). c.content) one) }

under : (o : Option ℕ) (target : CallTarget) (message : Message) (at : ℕ) (call : Call)
    → asked_under o target message at ≡ Ok (asked.Call call) → Holds message at call target
under None target message at call e = absurd (cc)
under (Some id) target message at call e =
    made message id at target (command_in target (text_in message.body) at) (sender_of message) call refl e

no_view : (v : View) (s : Option Sender) (call : Call) (E : Type 0) → ◌≡◌ {A = Result Asked Rejection} (Ok (view_from v s)) (Ok (asked.Call call)) → E
no_view v None call E e = absurd (cc)
no_view v (Some s) call E e = absurd (cc)

-- the message leads to a target, by its method, and holds the call
record IsCallOf (message : Message) (at : ℕ) (call : Call) : Type 0 where
  target : CallTarget
  posted : message.method ≡ codes "POST"
  leads : resource_asked message.method message.target ≡ Ok (resource.Call target)
  holds : Holds message at call target

abbrev with_method_if : Bool → Resource → Result Resource RouteFault
with_method_if b r = cond b (Ok r) (Err (NoMethod (verb_of r)))

verb_held : (method : List ℕ) (r : Resource) (t : CallTarget) (b : Bool) → has_verb method (verb_of r) ≡ b
    → with_method_if b r ≡ Ok (resource.Call t) → has_verb method Post ≡ true
verb_held method r t true is e = let one : r ≡ resource.Call t = cc in ap (λ x. has_verb method (verb_of x)) (sym one) ∙ is
verb_held method r t false is e = absurd (cc)

with_verb : (method : List ℕ) (o : Option Resource) (t : CallTarget) → with_method method o ≡ Ok (resource.Call t) → has_verb method Post ≡ true
with_verb method None t e = absurd (cc)
with_verb method (Some r) t e = verb_held method r t (has_verb method (verb_of r)) refl e

route_held : (method path : List ℕ) (k : Option Kind) (t : CallTarget) → on_route method path k ≡ Ok (resource.Call t) → has_verb method Post ≡ true
route_held method path None t e = absurd (cc)
route_held method path (Some kind) t e = with_verb method (resource_of kind path) t e

call_method : (method path : List ℕ) (t : CallTarget) → resource_asked method path ≡ Ok (resource.Call t) → method ≡ codes "POST"
call_method method path t e = (bytes_eq-Decides method (codes "POST")).0 (route_held method path (kind_of path) t e)

at_resource : (r : Resource) (message : Message) (at : ℕ) (call : Call) → resource_asked message.method message.target ≡ Ok r
    → asked_at r message at ≡ Ok (asked.Call call) → IsCallOf message at call
at_resource resource.Me message at call is e = no_view view.Me (sender_of message) call _ e
at_resource (resource.Board n v) message at call is e = no_view (board_view n v) (sender_of message) call _ e
at_resource (resource.Task n id) message at call is e = no_view (view.One n id) (sender_of message) call _ e
at_resource (resource.HistoryFrom n from) message at call is e = no_view (view.HistoryFrom n from) (sender_of message) call _ e
at_resource (resource.TaskHistory n id) message at call is e = no_view (view.HistoryOf n id) (sender_of message) call _ e
at_resource (resource.Call t) message at call is e = record {
  target = t;
  posted = call_method message.method message.target t is;
  leads = is;
  holds = under (request_id_of message) t message at call e;
}

on_asked : (q : Result Resource RouteFault) (message : Message) (at : ℕ) (call : Call) → resource_asked message.method message.target ≡ q
    → asked_on q message at ≡ Ok (asked.Call call) → IsCallOf message at call
on_asked (Err fault) message at call is e = absurd (cc)
on_asked (Ok r) message at call is e = at_resource r message at call is e

called : (message : Message) (at : ℕ) (call : Call) → asked_of message at ≡ Ok (asked.Call call) → IsCallOf message at call
unfolding asked_of
called message at call e = on_asked (resource_asked message.method message.target) message at call refl e

-- ---- the own keys of a target and a text, whenever they come

of_one : (c d : Command) (r : Result Command BadBody) → r ≡ Ok c → r ≡ Ok d → own_keys d ≡ own_keys c
of_one c d r e f = let both = sym f ∙ e in let same : d ≡ c = cc in ap own_keys same

no_own : (n : ℕ) (r : Result BoardCommand BadBody) (c : Command) → of_board n r ≡ Ok c → own_keys c ≡ None
no_own n (Err fault) c e = absurd (cc)
no_own n (Ok it) c e = let same : c ≡ command.OnBoard n it = cc in ap own_keys same

of_text : (t : CallTarget) (text : List ℕ) (at later : ℕ) (c d : Command) → command_of t text at ≡ Ok c → command_of t text later ≡ Ok d → own_keys d ≡ own_keys c
unfolding command_of
of_text target.People text at later c d e f = of_one c d _ e f
of_text target.OwnKey text at later c d e f = of_one c d _ e f
of_text (target.PersonKey name) text at later c d e f = of_one c d _ e f
of_text target.Boards text at later c d e f = of_one c d _ e f
of_text (target.Roles n) text at later c d e f = of_one c d _ e f
of_text (target.Take n) text at later c d e f = of_one c d _ e f
of_text (target.Board n call) text at later c d e f = no_own n (on_board n call text later) d f ∙ sym (no_own n (on_board n call text at) c e)
of_text (target.Task n id call) text at later c d e f = no_own n (on_task id call text) d f ∙ sym (no_own n (on_task id call text) c e)

of_body : (t : CallTarget) (text : Option (List ℕ)) (at later : ℕ) (c d : Command) → command_in t text at ≡ Ok c → command_in t text later ≡ Ok d → own_keys d ≡ own_keys c
of_body t None at later c d e f = absurd (cc)
of_body t (Some text) at later c d e f = of_text t text at later c d e f

-- ---- messages of one content

joined : (message other : Message) → message.method ≡ codes "POST" → other.method ≡ codes "POST" → content_of other ≡ content_of message
    → other.target ++ (10 ∷ other.body) ≡ message.target ++ (10 ∷ message.body)
joined message other p q e =
    let ours = other.target ++ (10 ∷ other.body) in
    let theirs = message.target ++ (10 ∷ message.body) in
    let left : codes "POST" ++ (32 ∷ ours) ≡ content_of other = ap (λ m. m ++ 32 ∷ other.target ++ 10 ∷ other.body) (sym q) in
    let right : content_of message ≡ codes "POST" ++ (32 ∷ theirs) = ap (λ m. m ++ 32 ∷ message.target ++ 10 ∷ message.body) p in
    let both : codes "POST" ++ (32 ∷ ours) ≡ codes "POST" ++ (32 ∷ theirs) = left ∙ e ∙ right in
    ap (λ text. drop 5 text) both

one_call : (message other : Message) (at later : ℕ) (call again : Call) → is_free_of 10 message.target ≡ true → is_free_of 10 other.target ≡ true
    → IsCallOf message at call → IsCallOf other later again → again.content ≡ call.content → own_keys again.command ≡ own_keys call.command
one_call message other at later call again free fine a b e =
    let parts = parted other.target message.target other.body message.body fine free
    (joined message other a.posted b.posted (sym b.holds.content ∙ e ∙ a.holds.content)) in
    let led : resource_asked message.method message.target ≡ Ok (resource.Call b.target) =
    ap (λ m. resource_asked m message.target) (a.posted ∙ sym b.posted) ∙ ap (λ t. resource_asked other.method t) (sym parts.0) ∙ b.leads in
    let both = sym led ∙ a.leads in
    let target : b.target ≡ a.target = cc in
    let held : command_in a.target (text_in message.body) later ≡ Ok again.command =
    ap (λ t. command_in t (text_in message.body) later) (sym target) ∙ ap (λ body. command_in b.target (text_in body) later) (sym parts.1) ∙ b.holds.command in
    of_body a.target (text_in message.body) at later call.command again.command a.holds.command held

pub one_change : OneChangeOfKey
one_change message other at later call again free fine e f same =
    one_call message other at later call again free fine (called message at call e) (called other later again f) same
