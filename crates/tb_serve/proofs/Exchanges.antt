-- What comes of the next message of a connection.
use Rattle.std.proofs.Common.{◌≡◌, ℕ, ◌+◌, Bool, true, false, if◌then◌else◌, List, [], ◌∷◌, ◌++◌, length, take, drop, Option, Some, None, Result, Err, arith, refl, sym, ap, ◌∙◌, subst, inl, inr, append-nil, take-append-drop}
use Rattle.std.proofs.lemmas.List.{take_at}
use Rattle.tb_calls.specs.Call.{State}
use Rattle.tb_calls.specs.Leaving.{Only}
use Rattle.tb_calls.specs.declared.fault.KeepFault.TheVariants as keep
use Rattle.tb_http.specs.Inbox.{HasFault, IsUnfinished}
use Rattle.tb_http.specs.Wire.{Faults}
use Rattle.tb_http.specs.declared.fault.WireFault.{WireFault}
use Rattle.tb_serve.specs.Exchanging.{outcome, takes_no_more}
use Rattle.tb_serve.specs.Server.{Comes, HappensTo, Timed}
use Rattle.tb_serve.specs.declared.serving.ServeFault.{ServeFault}
use Rattle.tb_serve.specs.declared.serving.ServeFault.TheVariants as fault
use Rattle.tb_serve.specs.Serving.{Sends, Turns, reads_one}
use Rattle.tb_serve.specs.declared.serving.MessageOutcome.{MessageOutcome}
use Rattle.tb_serve.specs.declared.serving.MessageOutcome.TheVariants.{Replied, Failed, Unread}
use Rattle.tb_serve.specs.Turns.{Talk, silent, opens, comes, turns, goes, opened, came, gone, took, failed, refused, rested, went, sent_of}
use Rattle.tb_site.specs.declared.site.Site.{Site}

-- a fault of the bytes, whatever comes behind them, is one of theirs
pub fault_now : (bytes : List ℕ) (fault : WireFault) → HasFault bytes fault → Faults bytes fault
fault_now bytes fault has = subst (λ (b : List ℕ). Faults b fault) (append-nil bytes) (has [])

-- what is left of an answer that was written, once what isn't whole was let go of
pub sent_whole : (old mid new text : List ℕ) (is_whole : Bool) → Sends (Some old) (Some mid) [] text is_whole
    → new ≡ (if is_whole then mid else take (length old) mid) → new ≡ old ++ sent_of is_whole text
sent_whole old mid new text true sends is = is ∙ sends
sent_whole old mid new text false sends is =
    is ∙ ap (λ l. take (length old) l) sends.2 ∙ take_at old (take sends.0 text) (length old) refl ∙ sym (append-nil old)

abbrev pub talk_of : List ℕ → ℕ → Bool → List ℕ → Talk
talk_of bytes messages is_closing out = record { bytes = bytes; messages = messages; is_closing = is_closing; out = out }

pub talk_is : (bytes new_bytes : List ℕ) (messages new_messages : ℕ) (is_closing new_closing : Bool) (out new_out : List ℕ)
    → bytes ≡ new_bytes → messages ≡ new_messages → is_closing ≡ new_closing → out ≡ new_out
    → talk_of bytes messages is_closing out ≡ talk_of new_bytes new_messages new_closing new_out
talk_is bytes new_bytes messages new_messages is_closing new_closing out new_out b m c o =
    ap (λ x. talk_of x messages is_closing out) b
    ∙ ap (λ x. talk_of new_bytes x is_closing out) m
    ∙ ap (λ x. talk_of new_bytes new_messages x out) c
    ∙ ap (λ x. talk_of new_bytes new_messages new_closing x) o

some_is : {A : Type 0} (a b : A) → Some a ≡ Some b → a ≡ b
some_is a b e = cc

pub fault_is : (fault other : WireFault) → Unread fault ≡ Unread other → fault ≡ other
fault_is fault other e = cc

-- ---- what a turn makes of a connection

abbrev pub Refused : Talk → MessageOutcome → List ℕ → Bool → Type 0
Refused old turn bytes is_closing =
    (fault : WireFault) → turn ≡ Unread fault → HasFault old.bytes fault × (bytes ≡ old.bytes) × (is_closing ≡ true)

told_happens : (site : Site) (s : State) (at : Option ℕ) (old : Talk) (bytes : List ℕ) (messages : ℕ) (is_closing : Bool) (out : List ℕ) (is_whole : Bool) (text : List ℕ) (now stops : State → Type 0)
    → old.is_closing ≡ false → out ≡ old.out ++ sent_of is_whole text
    → Turns site s (at ∷ []) old.messages old.bytes Replied text now stops (Some bytes) is_closing → messages ≡ old.messages + 1
    → HappensTo site (outcome Replied is_whole) s (turns at) old
    (talk_of bytes messages (takes_no_more is_closing Replied is_whole) out) now stops
told_happens site s at old bytes messages is_closing out true text now stops unclosed sent turned counted =
    let m : Timed = record { received = turned.0; at = at } in (
      took m true,
      refl,
      refl,
      (
        turned.1,
        turned.2,
        unclosed,
        talk_is bytes turned.1 messages (old.messages + 1) is_closing _ out _ (some_is bytes turned.1 turned.3) counted turned.4
            (sent ∙ ap (λ t. old.out ++ t) turned.5.0),
      ),
      turned.5.1,
    )
told_happens site s at old bytes messages is_closing out false text now stops unclosed sent turned counted =
    let m : Timed = record { received = turned.0; at = at } in (
      took m false,
      refl,
      refl,
      (
        turned.1,
        turned.2,
        unclosed,
        talk_is bytes turned.1 messages (old.messages + 1) true true out _ (some_is bytes turned.1 turned.3) counted refl sent,
      ),
      turned.5.1,
    )

failed_happens : (site : Site) (s : State) (at : Option ℕ) (old : Talk) (bytes : List ℕ) (messages : ℕ) (is_closing : Bool) (out : List ℕ) (is_whole : Bool) (text : List ℕ) (now stops : State → Type 0)
    → old.is_closing ≡ false → out ≡ old.out ++ sent_of is_whole text
    → Turns site s (at ∷ []) old.messages old.bytes (Failed keep.Memory) text now stops (Some bytes) is_closing → messages ≡ old.messages + 1
    → HappensTo site (outcome (Failed keep.Memory) is_whole) s (turns at) old
    (talk_of bytes messages true out) now stops
failed_happens site s at old bytes messages is_closing out true text now stops unclosed sent turned counted =
    let m : Timed = record { received = turned.0; at = at } in (
      failed m text true,
      refl,
      refl,
      (
        turned.1,
        turned.2,
        unclosed,
        turned.5.0,
        talk_is bytes turned.1 messages (old.messages + 1) true true out _ (some_is bytes turned.1 turned.3) counted refl sent,
      ),
      turned.5.1,
    )
failed_happens site s at old bytes messages is_closing out false text now stops unclosed sent turned counted =
    let m : Timed = record { received = turned.0; at = at } in (
      failed m text false,
      refl,
      refl,
      (
        turned.1,
        turned.2,
        unclosed,
        turned.5.0,
        talk_is bytes turned.1 messages (old.messages + 1) true true out _ (some_is bytes turned.1 turned.3) counted refl sent,
      ),
      turned.5.1,
    )

stopped_happens : (site : Site) (s : State) (at : Option ℕ) (old : Talk) (bytes : List ℕ) (messages : ℕ) (is_closing : Bool) (out : List ℕ) (is_whole : Bool) (text : List ℕ) (now stops : State → Type 0)
    → old.is_closing ≡ false → out ≡ old.out ++ sent_of is_whole text
    → Turns site s (at ∷ []) old.messages old.bytes (Failed keep.Store) text now stops (Some bytes) is_closing → messages ≡ old.messages + 1
    → HappensTo site (outcome (Failed keep.Store) is_whole) s (turns at) old
    (talk_of bytes messages true out) now stops
stopped_happens site s at old bytes messages is_closing out is_whole text now stops unclosed sent turned counted =
    let m : Timed = record { received = turned.0; at = at } in (
      m,
      text,
      is_whole,
      refl,
      (
        turned.1,
        turned.2,
        unclosed,
        turned.5.0,
        talk_is bytes turned.1 messages (old.messages + 1) true true out _ (some_is bytes turned.1 turned.3) counted refl sent,
      ),
      turned.5.1,
    )

unread_happens : (site : Site) (s : State) (at : Option ℕ) (old : Talk) (bytes : List ℕ) (messages : ℕ) (is_closing : Bool) (out : List ℕ) (fault : WireFault) (is_whole : Bool) (text : List ℕ) (now stops : State → Type 0)
    → old.is_closing ≡ false → out ≡ old.out ++ sent_of is_whole text
    → Turns site s (at ∷ []) old.messages old.bytes (Unread fault) text now stops (Some bytes) is_closing
    → Refused old (Unread fault) bytes is_closing → messages ≡ old.messages
    → HappensTo site (outcome (Unread fault) is_whole) s (turns at) old
    (talk_of bytes messages true out) now stops
unread_happens site s at old bytes messages is_closing out fault true text now stops unclosed sent turned refuses counted =
    let no = refuses fault refl in (
      refused text true,
      tt,
      refl,
      ((fault, no.0, turned.1), unclosed, talk_is bytes old.bytes messages old.messages true true out _ no.1 counted refl sent),
      turned.2,
    )
unread_happens site s at old bytes messages is_closing out fault false text now stops unclosed sent turned refuses counted =
    let no = refuses fault refl in (
      refused text false,
      tt,
      refl,
      ((fault, no.0, turned.1), unclosed, talk_is bytes old.bytes messages old.messages true true out _ no.1 counted refl sent),
      turned.2,
    )

turn_happens : (site : Site) (s : State) (at : Option ℕ) (old : Talk) (bytes : List ℕ) (messages : ℕ) (is_closing : Bool) (out : List ℕ) (turn : MessageOutcome) (is_whole : Bool) (text : List ℕ) (now stops : State → Type 0)
    → old.is_closing ≡ false → out ≡ old.out ++ sent_of is_whole text
    → Turns site s (at ∷ []) old.messages old.bytes turn text now stops (Some bytes) is_closing
    → Refused old turn bytes is_closing → messages ≡ old.messages + reads_one turn
    → HappensTo site (outcome turn is_whole) s (turns at) old
    (talk_of bytes messages (takes_no_more is_closing turn is_whole) out) now stops
turn_happens site s at old bytes messages is_closing out Replied is_whole text now stops unclosed sent turned refuses counted =
    told_happens site s at old bytes messages is_closing out is_whole text now stops unclosed sent turned counted
turn_happens site s at old bytes messages is_closing out (Failed keep.Memory) is_whole text now stops unclosed sent turned refuses counted =
    failed_happens site s at old bytes messages is_closing out is_whole text now stops unclosed sent turned counted
turn_happens site s at old bytes messages is_closing out (Failed keep.Store) is_whole text now stops unclosed sent turned refuses counted =
    stopped_happens site s at old bytes messages is_closing out is_whole text now stops unclosed sent turned counted
turn_happens site s at old bytes messages is_closing out (Unread fault) is_whole text now stops unclosed sent turned refuses counted =
    let none : old.messages + 0 ≡ old.messages = omega arith in
    unread_happens site s at old bytes messages is_closing out fault is_whole text now stops unclosed sent turned refuses (counted ∙ none)

-- the same, where a call's clauses give it
abbrev pub Answers : Site → State → Option ℕ → Talk → List ℕ → Bool → List ℕ → MessageOutcome → Bool → (State → Type 0) → (State → Type 0) → Type 0
Answers site s at old bytes is_closing out turn is_whole now stops =
    (text : List ℕ) × (out ≡ old.out ++ sent_of is_whole text)
    × Turns site s (at ∷ []) old.messages old.bytes turn text now stops (Some bytes) is_closing

pub answer_happens : (site : Site) (s : State) (at : Option ℕ) (old : Talk) (bytes : List ℕ) (messages : ℕ) (is_closing : Bool) (out : List ℕ) (turn : MessageOutcome) (is_whole : Bool) (now stops : State → Type 0)
    (ends : Bool) (r : Result (Unit {0}) ServeFault)
    → old.is_closing ≡ false → Answers site s at old bytes is_closing out turn is_whole now stops
    → Refused old turn bytes is_closing → messages ≡ old.messages + reads_one turn
    → ends ≡ takes_no_more is_closing turn is_whole → r ≡ outcome turn is_whole
    → HappensTo site r s (turns at) old (talk_of bytes messages ends out) now stops
answer_happens site s at old bytes messages is_closing out turn is_whole now stops ends r unclosed answers refuses counted ends_is is =
    let new : Bool → Talk = λ b. talk_of bytes messages b out in
    subst (λ (b : Bool). HappensTo site r s (turns at) old (new b) now stops) (sym ends_is)
    (subst (λ (q : Result (Unit {0}) ServeFault). HappensTo site q s (turns at) old (new (takes_no_more is_closing turn is_whole)) now stops) (sym is)
    (turn_happens site s at old bytes messages is_closing out turn is_whole answers.0 now stops unclosed answers.1 answers.2 refuses counted))

-- ---- what else may be done to it

pub rests_closed : (site : Site) (s : State) (at : Option ℕ) (talk : Talk) (now stops : State → Type 0) → talk.is_closing ≡ true → now s → Only s stops → Comes site None s (turns at) talk talk now stops
rests_closed site s at talk now stops closed held only = (rested, tt, refl, (inl closed, refl), record { held = held; stops = only })

pub rests_waiting : {D : Type 0} (site : Site) (holds after_stop : D → State → Type 0) (s : State) (at : Option ℕ) (old new : Talk) (d e : D)
    → IsUnfinished old.bytes → new ≡ old → e ≡ d → holds d s → Only s (after_stop d) → Comes site None s (turns at) old new (holds e) (after_stop e)
rests_waiting {D = D} site holds after_stop s at old new d e unfinished same is held only =
    subst (λ (x : D). Comes site None s (turns at) old new (holds x) (after_stop x)) (sym is)
    (rested, tt, refl, (inr unfinished, same), record { held = held; stops = only })

pub opened_comes : (site : Site) (s : State) (old new : Talk) (now stops : State → Type 0) → new ≡ silent → now s → Only s stops → Comes site None s opens old new now stops
opened_comes site s old new now stops is held only = (opened, refl, refl, is, record { held = held; stops = only })

pub came_happens : (site : Site) (s : State) (old new : Talk) (piece : List ℕ) (now stops : State → Type 0)
    → new ≡ record { bytes = old.bytes ++ piece; messages = old.messages; is_closing = old.is_closing; out = old.out }
    → now s → Only s stops → Comes site None s (comes piece) old new now stops
came_happens site s old new piece now stops is held only = (came piece, inl refl, refl, is, record { held = held; stops = only })

pub gone_happens : (site : Site) (s : State) (old new : Talk) (piece : List ℕ) (now stops : State → Type 0)
    → new ≡ record { bytes = old.bytes; messages = old.messages; is_closing = true; out = old.out }
    → now s → Only s stops → HappensTo {T = Unit {0}} site (Err fault.Memory) s (comes piece) old new now stops
gone_happens site s old new piece now stops is held only = (gone, inr refl, refl, is, record { held = held; stops = only })

pub went_happens : (site : Site) (s : State) (old new : Talk) (count : ℕ) (now stops : State → Type 0)
    → new ≡ record { bytes = old.bytes; messages = old.messages; is_closing = old.is_closing; out = drop count old.out }
    → now s → Only s stops → Comes site None s (goes count) old new now stops
went_happens site s old new count now stops is held only =
    (went (take count old.out), refl, refl, (drop count old.out, sym (take-append-drop count old.out), is), record { held = held; stops = only })
