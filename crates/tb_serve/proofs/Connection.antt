-- A connection's messages, turn by turn.
use Rattle.std.proofs.Common.{◌≡◌, ◌≢◌, ℕ, ◌+◌, ◌<◌, ◌≤◌, Bool, true, false, true≢false, List, [], ◌∷◌, ◌++◌, length, take, drop, drop-drop, Option, Some, None, IfSome, refl, sym, ap, ◌∙◌, subst, append_assoc, arith, inl, inr, ⊎_elim}
use Rattle.std.specs.Prelude.{IsSomeAnd}
use Rattle.std.proofs.lemmas.Bool.{cases_lt}
use Rattle.std.proofs.lemmas.List.{length-append}
use Rattle.std.specs.Io.KnownBytes.{Appends}
use Rattle.tb_values.proofs.Appends.{Appends-nil, Appends-then}
use Rattle.tb_calls.specs.Call.{State}
use Rattle.tb_calls.specs.Leaving.{Only}
use Rattle.tb_desk.proofs.Runs.{after_all-append}
use Rattle.tb_http.specs.declared.message.Message.{Message}
use Rattle.tb_http.specs.Stream.{Brings, Received}
use Rattle.tb_http.specs.Wire.{BeginsWithMessage, is_last}
use Rattle.tb_serve.specs.declared.serving.Exchange.{Exchange}
use Rattle.tb_serve.specs.declared.serving.ServeEnd.{ServeEnd}
use Rattle.tb_serve.specs.declared.serving.MessageOutcome.{MessageOutcome}
use Rattle.tb_serve.specs.declared.serving.MessageOutcome.TheVariants.{Replied, Failed, Unread}
use Rattle.tb_program.specs.Clock.{later, next}
use Rattle.tb_serve.specs.Serving.{Exchanges, Handles, HandlesMessage, IsServingEnd, Sends, Turns, answer_to, answers, calls_of, ended_by, ended_well, ends_last, goes_on, left_by, no_start, none_closes}
use Rattle.tb_serve.specs.Telling.{StandsAt, after, calls_in}
use Rattle.tb_serve.proofs.Lists.{answers-push, brings-push, calls-push, ends-push, left-push, none-push, reached, reached-after}
use Rattle.tb_site.specs.declared.site.Site.{Site}

-- ---- a message that was read and handled

turned : (site : Site) (s : State) (clock : List (Option ℕ)) (before : ℕ) (bytes rest : List ℕ) (message : Message) (closes is_closing flag : Bool) (at : Option ℕ) (turn : MessageOutcome) (text : List ℕ) (now stops : State → Type 0)
    → BeginsWithMessage bytes message closes rest → is_closing ≡ is_last closes before → flag ≡ is_last closes before → at ≡ next clock
    → Handles site s at flag message turn text now stops → Turns site s clock before bytes turn text now stops (Some rest) is_closing
turned site s clock before bytes rest message closes is_closing flag at Replied text now stops begins last same is handles =
    let P : Bool → Option ℕ → Type 0 = λ c a. Handles site s a c message Replied text now stops in
    let m : Received = record { message = message; closes = closes } in
    (m, rest, begins, refl, last, subst (λ (a : Option ℕ). P (is_last closes before) a) is (subst (λ (c : Bool). P c at) same handles))
turned site s clock before bytes rest message closes is_closing flag at (Failed fault) text now stops begins last same is handles =
    let P : Bool → Option ℕ → Type 0 = λ c a. Handles site s a c message (Failed fault) text now stops in
    let m : Received = record { message = message; closes = closes } in
    (m, rest, begins, refl, last, subst (λ (a : Option ℕ). P (is_last closes before) a) is (subst (λ (c : Bool). P c at) same handles))
turned site s clock before bytes rest message closes is_closing flag at (Unread fault) text now stops begins last same is handles = absurd handles

pub exchanged : (site : Site) (s : State) (known left : Option (List ℕ)) (moments later_moments : Option (List (Option ℕ))) (before : ℕ) (message : Message) (is_closing flag : Bool) (at : Option ℕ) (old new : Option (List ℕ)) (exchange : Exchange) (now stops : State → Type 0)
    → IfSome known (λ bytes. IsSomeAnd left (λ rest. (closes : Bool) × BeginsWithMessage bytes message closes rest × (is_closing ≡ is_last closes before)))
    → flag ≡ is_closing
    → IfSome moments (λ clock. (at ≡ next clock) × (later_moments ≡ Some (later clock)))
    → HandlesMessage site s at flag message old new exchange.turn exchange.is_whole now stops
    → IfSome known (λ bytes. IfSome moments (λ clock. Exchanges site s clock before bytes old new exchange now stops left is_closing))
exchanged site s None left moments later_moments before message is_closing flag at old new exchange now stops begins same given handles = tt
exchanged site s (Some bytes) left None later_moments before message is_closing flag at old new exchange now stops begins same given handles = tt
exchanged site s (Some bytes) None (Some clock) later_moments before message is_closing flag at old new exchange now stops begins same given handles = absurd begins
exchanged site s (Some bytes) (Some rest) (Some clock) later_moments before message is_closing flag at old new exchange now stops begins same given handles = (
  handles.0,
  handles.1,
  turned site s clock before bytes rest message begins.0 is_closing flag at exchange.turn handles.0 now stops begins.1 begins.2 (same ∙ begins.2) given.0 handles.2,
)

-- ---- a run of turns

-- The messages so far were all answered whole.
pub record SoFar (site : Site) (s : State) (moments : List (Option ℕ)) (bytes : List ℕ) (known : Option (List ℕ)) (clock : Option (List (Option ℕ))) (old new : Option (List ℕ)) (now : State → Type 0) (stops : State → Type 0) (count : ℕ) (is_closing : Bool) : Type 0 where
  pub told : List Received
  pub left : List ℕ
  pub brings : Brings bytes told left
  pub is_left : known ≡ Some left
  pub clock_is : clock ≡ Some (left_by moments told)
  pub written : Appends old new (answers site s moments 0 told)
  pub stands : StandsAt (after s (calls_of moments told)) now stops
  pub counted : count ≡ length told
  pub unclosed : is_closing ≡ false → none_closes 0 told ≡ true
  pub closing : is_closing ≡ true → ends_last 0 told ≡ true

abbrev pub Runs : Site → State → Option (List ℕ) → Option (List (Option ℕ)) → Option (List ℕ) → Option (List (Option ℕ)) → Option (List ℕ) → Option (List ℕ) → (State → Type 0) → (State → Type 0) → ℕ → Bool → Type 0
Runs site s source moments known clock old new now stops count is_closing =
    IfSome source (λ bytes. IfSome moments (λ all. SoFar site s all bytes known clock old new now stops count is_closing))

pub run_none : (site : Site) (s : State) (source : Option (List ℕ)) (moments : Option (List (Option ℕ))) (old : Option (List ℕ)) (now stops : State → Type 0) (count : ℕ) (is_closing : Bool)
    → count ≡ 0 → is_closing ≡ false → now s → Only s stops → Runs site s source moments source moments old old now stops count is_closing
run_none site s None moments old now stops count is_closing none opened held only = tt
run_none site s (Some bytes) None old now stops count is_closing none opened held only = tt
run_none site s (Some bytes) (Some all) old now stops count is_closing none opened held only = record {
  told = [];
  left = bytes;
  brings = refl;
  is_left = refl;
  clock_is = refl;
  written = Appends-nil old;
  stands = record { held = held; stops = only };
  counted = none;
  unclosed = λ _. refl;
  closing = λ closed. absurd (true≢false (sym closed ∙ opened));
}

at_some : {A : Type 0} (o : Option A) (x : A) (P : A → Type 0) → o ≡ Some x → IfSome o P → P x
at_some o x P is p = subst (λ v. IfSome v P) is p

-- what the next turn says, behind the messages so far
abbrev pub Goes : Site → Option (List ℕ) → Option (List (Option ℕ)) → ℕ → Option (List ℕ) → Option (List ℕ) → Exchange → (State → Type 0) → (State → Type 0) → (State → Type 0) → (State → Type 0) → Option (List ℕ) → Bool → Type 0
Goes site known clock count new newer exchange now stops next_now next_stops left is_closing =
    (t : State) → now t → Only t stops → IfSome known (λ bytes. IfSome clock (λ moments. Exchanges site t moments count bytes new newer exchange next_now next_stops left is_closing))

here : (site : Site) (s : State) (all : List (Option ℕ)) (bytes : List ℕ) (known : Option (List ℕ)) (clock : Option (List (Option ℕ))) (old new newer : Option (List ℕ)) (now stops next_now next_stops : State → Type 0) (count : ℕ) (is_closing closing : Bool) (exchange : Exchange) (left : Option (List ℕ))
    → (r : SoFar site s all bytes known clock old new now stops count is_closing) → Goes site known clock count new newer exchange now stops next_now next_stops left closing
    → Exchanges site (after s (calls_of all r.told)) (left_by all r.told) count r.left new newer exchange next_now next_stops left closing
here site s all bytes known clock old new newer now stops next_now next_stops count is_closing closing exchange left r goes =
    let t = after s (calls_of all r.told) in
    at_some clock (left_by all r.told) (λ moments. Exchanges site t moments count r.left new newer exchange next_now next_stops left closing) r.clock_is
    (at_some known r.left (λ b. IfSome clock (λ moments. Exchanges site t moments count b new newer exchange next_now next_stops left closing)) r.is_left (goes t r.stands.held r.stands.stops))

-- one message more was told, and its answer written whole
more : (site : Site) (s : State) (all : List (Option ℕ)) (bytes : List ℕ) (known : Option (List ℕ)) (clock later_clock : Option (List (Option ℕ))) (old new newer : Option (List ℕ)) (now stops next_now next_stops : State → Type 0) (count : ℕ) (is_closing closing : Bool) (left : Option (List ℕ)) (text : List ℕ)
    → (r : SoFar site s all bytes known clock old new now stops count is_closing)
    → Appends new newer text
    → Turns site (after s (calls_of all r.told)) (left_by all r.told) count r.left Replied text next_now next_stops left closing
    → is_closing ≡ false
    → later_clock ≡ Some (later (left_by all r.told))
    → SoFar site s all bytes left later_clock old newer next_now next_stops (count + 1) closing
more site s all bytes known clock later_clock old new newer now stops next_now next_stops count is_closing closing left text r wrote turn unclosed passed =
    let told = r.told in
    let t = after s (calls_of all told) in
    let at = next (left_by all told) in
    let m : Received = turn.0 in
    let calls = calls_in m.message at in
    let counted : count ≡ 0 + length told = omega (arith, r.counted) in
    let last : closing ≡ is_last m.closes (0 + length told) = turn.4 ∙ ap (λ k. is_last m.closes k) counted in
    let text_is : text ≡ answer_to site (reached s all told) at (0 + length told) m =
    turn.5.0 ∙ ap (λ u. answer_to site u at count m) (sym (reached-after s all told)) ∙ ap (λ k. answer_to site (reached s all told) at k m) counted in
    let whole : answers site s all 0 told ++ text ≡ answers site s all 0 (told ++ m ∷ []) =
    ap (λ x. answers site s all 0 told ++ x) text_is ∙ sym (answers-push site s all 0 told m) in
    let stood : after t calls ≡ after s (calls_of all (told ++ m ∷ [])) =
    sym (after_all-append s (calls_of all told) calls) ∙ ap (λ cs. after s cs) (sym (calls-push all told m)) in
    record {
      told = told ++ m ∷ [];
      left = turn.1;
      brings = brings-push bytes told r.left m turn.1 r.brings turn.2;
      is_left = turn.3;
      clock_is = passed ∙ ap (λ c. Some c) (sym (left-push all told m));
      written = subst (λ (x : List ℕ). Appends old newer x) whole (Appends-then old new newer _ text r.written wrote);
      stands = subst (λ (u : State). StandsAt u next_now next_stops) stood turn.5.1;
      counted = simp length-append (omega (arith, r.counted));
      unclosed = λ goes. none-push 0 told m (r.unclosed unclosed) (sym last ∙ goes);
      closing = λ closed. ends-push 0 told m (r.unclosed unclosed) ∙ sym last ∙ closed;
    }

pub told_on : (turn : MessageOutcome) (is_whole : Bool) → goes_on turn is_whole ≡ true → (turn ≡ Replied) × (is_whole ≡ true)
told_on Replied is_whole on = (refl, on)
told_on (Failed fault) is_whole on = absurd (cc)
told_on (Unread fault) is_whole on = absurd (cc)

pub run_more : (site : Site) (s : State) (source : Option (List ℕ)) (moments : Option (List (Option ℕ))) (known : Option (List ℕ)) (clock later_clock : Option (List (Option ℕ))) (old new newer : Option (List ℕ)) (now stops next_now next_stops : State → Type 0) (count next_count : ℕ) (is_closing closing : Bool) (exchange : Exchange) (left : Option (List ℕ))
    → Runs site s source moments known clock old new now stops count is_closing
    → Goes site known clock count new newer exchange now stops next_now next_stops left closing
    → is_closing ≡ false
    → goes_on exchange.turn exchange.is_whole ≡ true
    → IfSome clock (λ c. later_clock ≡ Some (later c))
    → next_count ≡ count + 1
    → Runs site s source moments left later_clock old newer next_now next_stops next_count closing
run_more site s None moments known clock later_clock old new newer now stops next_now next_stops count next_count is_closing closing exchange left run goes unclosed on passed counted = tt
run_more site s (Some bytes) None known clock later_clock old new newer now stops next_now next_stops count next_count is_closing closing exchange left run goes unclosed on passed counted = tt
run_more site s (Some bytes) (Some all) known clock later_clock old new newer now stops next_now next_stops count next_count is_closing closing exchange left run goes unclosed on passed counted =
    let at = here site s all bytes known clock old new newer now stops next_now next_stops count is_closing closing exchange left run goes in
    let t = after s (calls_of all run.told) in
    subst (λ (k : ℕ). SoFar site s all bytes left later_clock old newer next_now next_stops k closing) (sym counted)
    (more site s all bytes known clock later_clock old new newer now stops next_now next_stops count is_closing closing left at.0 run
    (subst (λ (b : Bool). Sends new newer [] at.0 b) (told_on exchange.turn exchange.is_whole on).1 at.1)
    (subst (λ (u : MessageOutcome). Turns site t (left_by all run.told) count run.left u at.0 next_now next_stops left closing) (told_on exchange.turn exchange.is_whole on).0 at.2)
    unclosed
    (at_some clock (left_by all run.told) (λ c. later_clock ≡ Some (later c)) run.clock_is passed))

-- fewer messages than the limit were read where the connection goes on
pub has_room : (count : ℕ) (is_closing : Bool) → (1000 ≤ count → is_closing ≡ true) → is_closing ≡ false → count < 1000
has_room count is_closing full unclosed =
    ⊎_elim (λ (room : count < 1000). room) (λ (none : 1000 ≤ count). absurd (true≢false (sym (full none) ∙ unclosed))) (cases_lt count 1000)

-- ---- the moments taken

later-drop : (clock : List (Option ℕ)) → drop 1 clock ≡ later clock
later-drop [] = refl
later-drop (at ∷ more) = refl

-- what the clock has left behind one message
pub taken_one : (clock later_clock : Option (List (Option ℕ))) (count : ℕ) → count ≡ 1
    → IfSome clock (λ all. later_clock ≡ Some (drop count all)) → IfSome clock (λ all. later_clock ≡ Some (later all))
taken_one None later_clock count one taken = tt
taken_one (Some all) later_clock count one taken = taken ∙ ap (λ k. Some (drop k all)) one ∙ ap (λ c. Some c) (later-drop all)

pub takes_one : (clock later_clock : Option (List (Option ℕ))) (at : Option ℕ) (count : ℕ) → count ≡ 1
    → IfSome clock (λ all. (at ≡ next all) × (later_clock ≡ Some (later all))) → IfSome clock (λ all. later_clock ≡ Some (drop count all))
takes_one None later_clock at count one given = tt
takes_one (Some all) later_clock at count one given =
    given.1 ∙ ap (λ c. Some c) (sym (later-drop all)) ∙ ap (λ k. Some (drop k all)) (sym one)

pub taken_none : (clock : Option (List (Option ℕ))) (count : ℕ) → count ≡ 0 → IfSome clock (λ all. clock ≡ Some (drop count all))
taken_none None count none = tt
taken_none (Some all) count none = ap (λ k. Some (drop k all)) (sym none)

-- so many moments, and then so many more
pub taken_more : (clock mid_clock later_clock : Option (List (Option ℕ))) (first more count : ℕ) → count ≡ first + more
    → IfSome clock (λ all. mid_clock ≡ Some (drop first all)) → IfSome mid_clock (λ all. later_clock ≡ Some (drop more all))
    → IfSome clock (λ all. later_clock ≡ Some (drop count all))
taken_more None mid_clock later_clock first more count sum before behind = tt
taken_more (Some all) mid_clock later_clock first more count sum before behind =
    at_some mid_clock (drop first all) (λ c. later_clock ≡ Some (drop more c)) before behind
    ∙ ap (λ c. Some c) (drop-drop more first all) ∙ ap (λ k. Some (drop k all)) (sym sum)

-- ---- how it ends

sends_behind : (old new newer : Option (List ℕ)) (front text : List ℕ) (is_whole : Bool) → Appends old new front → Sends new newer [] text is_whole → Sends old newer front text is_whole
sends_behind old new newer front text true before sends = Appends-then old new newer front text before sends
sends_behind old new newer front text false before sends = (sends.0, sends.1, Appends-then old new newer front (take sends.0 text) before sends.2)

-- the end of a connection whose bytes and moments may be known
abbrev pub Ends : Site → State → Option (List ℕ) → Option (List (Option ℕ)) → Option (List ℕ) → Option (List ℕ) → (State → Type 0) → (State → Type 0) → ServeEnd → Type 0
Ends site s source moments old new now stops end = IfSome source (λ bytes. IfSome moments (λ all. IsServingEnd site s all bytes old new now stops end))

-- by an exchange that was no whole answer to a message
pub run_ends : (site : Site) (s : State) (source : Option (List ℕ)) (moments : Option (List (Option ℕ))) (known : Option (List ℕ)) (clock : Option (List (Option ℕ))) (old new newer : Option (List ℕ)) (now stops next_now next_stops : State → Type 0) (count : ℕ) (is_closing closing : Bool) (exchange : Exchange) (left : Option (List ℕ)) (end : ServeEnd)
    → Runs site s source moments known clock old new now stops count is_closing
    → Goes site known clock count new newer exchange now stops next_now next_stops left closing
    → is_closing ≡ false → goes_on exchange.turn exchange.is_whole ≡ false → end ≡ ended_by count exchange
    → Ends site s source moments old newer next_now next_stops end
run_ends site s None moments known clock old new newer now stops next_now next_stops count is_closing closing exchange left end run goes unclosed cut counts = tt
run_ends site s (Some bytes) None known clock old new newer now stops next_now next_stops count is_closing closing exchange left end run goes unclosed cut counts = tt
run_ends site s (Some bytes) (Some all) known clock old new newer now stops next_now next_stops count is_closing closing exchange left end run goes unclosed cut counts =
    let at = here site s all bytes known clock old new newer now stops next_now next_stops count is_closing closing exchange left run goes in
    let t = after s (calls_of all run.told) in
    inr (inl (record {
      told = run.told;
      left = run.left;
      brings = run.brings;
      unclosed = run.unclosed unclosed;
      exchange = exchange;
      ends = cut;
      text = at.0;
      sends = sends_behind old new newer (answers site s all 0 run.told) at.0 exchange.is_whole run.written at.1;
      turns = (left, closing, subst (λ (k : ℕ). Turns site t (left_by all run.told) k run.left exchange.turn at.0 next_now next_stops left closing) run.counted at.2);
      counts = counts ∙ ap (λ k. ended_by k exchange) run.counted;
    }))

-- by a message that closes it
pub run_closed : (site : Site) (s : State) (source : Option (List ℕ)) (moments : Option (List (Option ℕ))) (known : Option (List ℕ)) (clock : Option (List (Option ℕ))) (old new : Option (List ℕ)) (now stops : State → Type 0) (count : ℕ) (is_closing : Bool) (end : ServeEnd)
    → Runs site s source moments known clock old new now stops count is_closing → is_closing ≡ true → end ≡ ended_well count
    → Ends site s source moments old new now stops end
run_closed site s None moments known clock old new now stops count is_closing end run closed counts = tt
run_closed site s (Some bytes) None known clock old new now stops count is_closing end run closed counts = tt
run_closed site s (Some bytes) (Some all) known clock old new now stops count is_closing end run closed counts =
    inl (record {
      told = run.told;
      left = run.left;
      brings = run.brings;
      last = run.closing closed;
      written = run.written;
      stands = run.stands;
      counts = counts ∙ ap (λ k. ended_well k) run.counted;
    })

-- without memory to begin with
pub unstarted : (site : Site) (s : State) (source : Option (List ℕ)) (moments : Option (List (Option ℕ))) (old : Option (List ℕ)) (now stops : State → Type 0) (end : ServeEnd)
    → now s → Only s stops → end ≡ no_start → Ends site s source moments old old now stops end
unstarted site s None moments old now stops end held only counts = tt
unstarted site s (Some bytes) None old now stops end held only counts = tt
unstarted site s (Some bytes) (Some all) old now stops end held only counts =
    inr (inr (record { written = Appends-nil old; stands = record { held = held; stops = only }; counts = counts }))
