use Rattle.std.proofs.Common.{◌∙◌, subst, sym}
use Rattle.tb_desk.proofs.Admitted.{known_has_key, nothing_told, refusal_told, stranger_told}
use Rattle.tb_desk.proofs.desk.Desk.admits.Goals as goal
use Rattle.tb_desk.proofs.desk.Desk.admits.Goals.{in-Some+in_ok-reply_to_refused-in-Some, in-None}

pub returns-then-not-branch-clause-told : goal.returns-then-not-branch-clause-told
returns-then-not-branch-clause-told g c honest s held at =
    let was = subst (λ k. g.K.Keep.holds k s) (sym c.self.view_is) held in
    stranger_told s c.args.name.now c.args.key.now c.args.view.now at _ (sym (c.in_ok-is_known.ensures.told honest s was) ∙ c.if-not-branch.true) c.in_ok-reply_to_refused.ensures

pub returns-clause-told : goal.returns-clause-told
returns-clause-told g c honest s held at =
    let was = subst (λ k. g.K.Keep.holds k s) (sym c.self.view_is) held in
    let known = sym (c.in_ok-is_known.ensures.told (c.in_ok-refusal.ensures.honest honest) s was) ∙ c.if-not-branch.false in
    let why = c.in_ok-refusal.ensures.told honest s (c.in_ok-is_known.ensures.same.held s was) (known_has_key _ c.args.key.now known) at in
    elim c.match-branch-4.branch [
      | in-Some+in_ok-reply_to_refused-in-Some w ↦
          rw w.result-is (refusal_told s c.args.name.now c.args.key.now c.args.view.now at w.in-Some.refusal _ known (sym w.in-Some.is ∙ why) w.in_ok-reply_to_refused-in-Some.ensures)
      | in-None w ↦
          rw w.result-is (nothing_told s c.args.name.now c.args.key.now c.args.view.now at known (sym w.in-None.is ∙ why))
    ]
