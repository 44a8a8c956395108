use Rattle.std.proofs.Common.{◌∷◌, ◌++◌, [], refl, sym, subst, ◌∙◌, ◌≡◌}
use Rattle.std.proofs.lemmas.List.{map-append}
use Rattle.tb_task.specs.declared.task.Task.{Task}
use Rattle.tb_board.specs.FirstWait.{may_wake}
use Rattle.tb_board.specs.Tasks.{ArePlaces, ids, wakes}
use Rattle.tb_board.specs.TaskIndex.{IsLeastFree}
use Rattle.tb_board.proofs.Indexed.{least_found, still_taken}
use Rattle.tb_board.proofs.FirstWaits.{neither, none_push}
use Rattle.tb_board.proofs.task_index.TaskIndex.with.Goals as goal

pub returns : goal.returns
returns c =
    let all = ids c.args.tasks.now in
    let t = c.args.task.now in
    let joined : ids (c.args.tasks.now ++ t ∷ []) ≡ all ++ t.id ∷ [] = map-append (λ (x : Task). x.id) c.args.tasks.now (t ∷ []) in
    let places = c.in_ok-places.ensures in
    let least = least_found (all ++ t.id ∷ []) c.in_ok-places.places c.args.self.board c.args.self.least_free c.in-Some.least_free places
    (λ k from below. still_taken all t.id _ (c.requires.least.taken k from below)) c.requires.least.from c.in-Some.ensures.from c.in-Some.ensures.taken c.in-Some.ensures.vacant in
    record {
      places = subst (λ is. ArePlaces is c.in_ok-places.places) (sym joined) places;
      least = subst (λ is. IsLeastFree is c.args.self.board c.in-Some.least_free) (sym joined) least;
      waits = λ m none.
          let parts = neither (may_wake m c.args.self.first_wait) (wakes m t) (sym (c.with-2.ensures m) ∙ none) in
          none_push (wakes m) c.args.tasks.now t (c.requires.waits m parts.0) parts.1;
      templates = rw c.in-Some-2.is at (c.in_ok-templates.ensures c.args.tasks.now c.requires.templates refl);
    }
