use Rattle.std.proofs.Common.{◌≡◌, ◌∙◌, ◌-◌, ℕ, Bool, List, Result, Ok, Err, ap, sym}
use Rattle.std.specs.Prelude.{OnOk}
use Rattle.tb_event_loop.specs.Answering.{accounted}
use Rattle.tb_event_loop.specs.Guesses.{charged_with, heeded}
use Rattle.tb_event_loop.specs.declared.places.Places.{Places}
use Rattle.tb_rooms.specs.declared.rates.Rates.{Rates}
use Rattle.tb_event_loop.proofs.places.Places.account.Goals as goal

accounted_by : {T E : Type 0} (result : Result T E) (files : List ℕ → Bool) (head answer : List ℕ) (own swept now : ℕ) (old charged new : Places)
    → OnOk result (charged ≡ record old { rates = charged_with head own swept now old.rates })
    → new ≡ record charged { rates = heeded files head answer charged.rates } → OnOk result (new.rates ≡ accounted files head answer own swept now old.rates)
accounted_by (Ok x) files head answer own swept now old charged new first more =
    ap (λ (p : Places). p.rates) more ∙ ap (λ (p : Places). heeded files head answer p.rates) first
accounted_by (Err e) files head answer own swept now old charged new first more = tt

others_by : (old charged new : Places) (rates : Rates) → charged ≡ record old { rates = charged.rates } → new ≡ record charged { rates = rates }
    → new ≡ record old { rates = new.rates }
others_by old charged new rates first more =
    more ∙ ap (λ (p : Places). record p { rates = rates }) first ∙ ap (λ (r : Rates). record old { rates = r }) (sym (ap (λ (p : Places). p.rates) more))

still_by : (old charged new : Places) → charged ≡ record old { rates = charged.rates } → new ≡ charged → new ≡ record old { rates = new.rates }
still_by old charged new first same = same ∙ first ∙ ap (λ (r : Rates). record old { rates = r }) (sym (ap (λ (p : Places). p.rates) same))

pub returns-clause-ok : goal.returns-clause-ok
returns-clause-ok g c =
    accounted_by c.charge-charged.result (g.V.Service.gives_file c.args.service.now) c.args.head.now c.args.answer.now (c.args.after.own - c.args.before.own) (c.args.after.swept - c.args.before.swept) c.args.now
    c.args.self.now c.charge-charged.new.self c.heed.new.self c.charge-charged.ensures.ok c.in_ok-heed.ensures.ok

pub returns-clause-others : goal.returns-clause-others
returns-clause-others g c = others_by c.args.self.now c.charge-charged.new.self c.heed.new.self _ c.charge-charged.ensures.others c.in_ok-heed.ensures.ok

pub returns-in_err-heed-clause-others : goal.returns-in_err-heed-clause-others
returns-in_err-heed-clause-others g c = still_by c.args.self.now c.charge-charged.new.self c.heed.new.self c.charge-charged.ensures.others c.in_err-heed.ensures.err
