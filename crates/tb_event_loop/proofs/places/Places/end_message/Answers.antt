use Rattle.std.proofs.Common.{rules, ◌≡◌, ◌∙◌, ◌-◌, Bool, true, false, List, ℕ, [], ◌∷◌, Option, Result, Ok, Err, length, suc, sym, ap, subst, is_ok}
use Rattle.std.specs.Io.KnownBytes.{Appends}
use Rattle.std.specs.Option.{option_map}
use Rattle.std.specs.Prelude.{◌==◌, OnOk, slice_set}
use Rattle.std.proofs.lemmas.Bool.{eqb-true, true≢false}
use Rattle.tb_event_loop.specs.Answering.{Accounts, AwaitsNext, EndsMessage, accounted}
use Rattle.tb_event_loop.specs.Connection.{short_of_bytes, unasked}
use Rattle.tb_event_loop.specs.Deeds.{OwesBytes}
use Rattle.tb_event_loop.specs.Guesses.{owner_of}
use Rattle.tb_event_loop.specs.Head.{begun}
use Rattle.tb_event_loop.specs.Journal.{IsLogged}
use Rattle.tb_event_loop.specs.Places.{Changes, SetsHold, connection_in, hold_in}
use Rattle.tb_event_loop.specs.Sharing.{counted_out}
use Rattle.tb_event_loop.specs.declared.places.Places.{Places}
use Rattle.tb_rooms.specs.declared.rates.Rates.{Rates}
use Rattle.tb_event_loop.proofs.places.Places.end_message.Goals as goal

ends_none : (files : List ℕ → Bool) (head bytes answer : List ℕ) (own swept now : ℕ) (kept : Bool) (old new : Places) (place : ℕ) → bytes ≡ answer
    → (length bytes == 0) ≡ true → Changes short_of_bytes old new place → EndsMessage files head answer own swept now kept old new place
ends_none files head [] answer own swept now kept old new place is empty changes =
    subst (λ (a : List ℕ). EndsMessage files head a own swept now kept old new place) is changes
ends_none files head (byte ∷ bytes) answer own swept now kept old new place is empty changes =
    let none : suc (length bytes) ≡ 0 = eqb-true (suc (length bytes)) 0 empty in absurd (cc)

owes_none : (bytes owed : List ℕ) → bytes ≡ owed → (length bytes == 0) ≡ true → OwesBytes owed → ⊥
owes_none [] owed is empty owes = subst OwesBytes (sym is) owes
owes_none (byte ∷ bytes) owed is empty owes =
    let none : suc (length bytes) ≡ 0 = eqb-true (suc (length bytes)) 0 empty in cc

ends_some : (files : List ℕ → Bool) (head bytes answer : List ℕ) (own swept now : ℕ) (kept : Bool) (old new : Places) (place : ℕ) (rates : Rates) → bytes ≡ answer
    → (length bytes == 0) ≡ false → Accounts kept (accounted files head bytes own swept now old.rates) rates
    → AwaitsNext rates head (length bytes) old new place → EndsMessage files head answer own swept now kept old new place
ends_some files head [] answer own swept now kept old new place rates is some accounts awaits = absurd (true≢false some)
ends_some files head (byte ∷ bytes) answer own swept now kept old new place rates is some accounts awaits =
    subst (λ (a : List ℕ). EndsMessage files head a own swept now kept old new place) is (rates, accounts, awaits)

accounts_by : {T E : Type 0} (result : Result T E) (files : List ℕ → Bool) (given head answer : List ℕ) (own swept now : ℕ) (old is : Rates) → given ≡ head
    → OnOk result (is ≡ accounted files given answer own swept now old) → Accounts (is_ok result) (accounted files head answer own swept now old) is
accounts_by (Ok x) files given head answer own swept now old is same done = done ∙ ap (λ (h : List ℕ). accounted files h answer own swept now old) same
accounts_by (Err e) files given head answer own swept now old is same done = tt

awaits_by : (head : List ℕ) (owner bytes place : ℕ) (old charged awaits new : Places) → charged ≡ record old { rates = charged.rates }
    → owner ≡ owner_of charged.rates (begun head) → Changes (unasked owner) charged awaits place
    → SetsHold awaits new place (counted_out bytes (hold_in awaits place)) → AwaitsNext charged.rates head bytes old new place
awaits_by head owner bytes place old charged awaits new first whose changes counts = (
  ap (λ (p : Places). p.connections.items) counts.1 ∙ changes.0
      ∙ ap (λ (p : Places). slice_set p.connections.items place (option_map (unasked owner) (connection_in p place))) first
      ∙ ap (λ (o : ℕ). slice_set old.connections.items place (option_map (unasked o) (connection_in old place))) whose,
  counts.0 ∙ ap (λ (p : Places). slice_set p.holds.items place (counted_out bytes (hold_in p place))) changes.1
      ∙ ap (λ (p : Places). slice_set p.holds.items place (counted_out bytes (hold_in p place))) first,
  counts.1 ∙ ap (λ (p : Places). record p { holds = new.holds }) changes.1
      ∙ ap (λ (p : Places). record p { connections = awaits.connections; holds = new.holds }) first
      ∙ ap (λ connections. record old { connections = connections; holds = new.holds; rates = charged.rates }) (sym (ap (λ (p : Places). p.connections) counts.1)),
)

pub returns-then-is_empty-clause-ends : goal.returns-then-is_empty-clause-ends
returns-then-is_empty-clause-ends g c =
    ends_none (g.V.Service.gives_file c.args.service.now) c.args.journal.now.head.items c.unsent-answer.result.now _ (c.args.after.own - c.args.before.own) (c.args.after.swept - c.args.before.swept) c.args.now _ c.args.self.now c.lack_bytes.new.self c.args.place
    c.unsent-answer.ensures (search rules) c.lack_bytes.ensures

pub returns-then-is_empty-clause-logged : goal.returns-then-is_empty-clause-logged
returns-then-is_empty-clause-logged g c owes is = absurd (owes_none c.unsent-answer.result.now _ c.unsent-answer.ensures (search rules) owes)

pub returns-clause-ends : goal.returns-clause-ends
returns-clause-ends g c =
    let files = g.V.Service.gives_file c.args.service.now in
    let head = c.args.journal.now.head.items in
    let answer = c.unsent-answer.result.now in
    let own = c.args.after.own - c.args.before.own in
    let swept = c.args.after.swept - c.args.before.swept in
    let old = c.args.self.now in
    let charged = c.account-kept.new.self in
    ends_some files head answer _ own swept c.args.now (is_ok c.account-kept.result) old c.count_answer.new.self c.args.place charged.rates c.unsent-answer.ensures (search rules)
    (accounts_by c.account-kept.result files c.head.result.now head answer own swept c.args.now old.rates charged.rates c.head.ensures c.account-kept.ensures.ok)
    (awaits_by head c.owner_of-owner.result (length answer) c.args.place old charged c.await_next.new.self c.count_answer.new.self c.account-kept.ensures.others
    (c.owner_of-owner.ensures ∙ ap (λ (h : List ℕ). owner_of charged.rates (begun h)) c.head-2.ensures) c.await_next.ensures c.count_answer.ensures)

pub returns-clause-logged : goal.returns-clause-logged
returns-clause-logged g c owes is =
    let old = c.args.journal.now in
    let new = c.end.new.self in
    subst (λ (answer : List ℕ). IsLogged old.head.items answer (new.millis - old.began) old.missed new.missed (Appends (g.W.Write.contents old.errors) (g.W.Write.contents new.errors)))
    c.unsent-answer.ensures (c.end.ensures.logged is)
