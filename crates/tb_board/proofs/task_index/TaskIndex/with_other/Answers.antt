use Rattle.std.proofs.Common.{sym, subst, ◌∙◌, ap, length}
use Rattle.tb_board.specs.FirstWait.{may_wake}
use Rattle.tb_board.specs.Tasks.{ArePlaces, wakes}
use Rattle.tb_board.specs.TaskIndex.{IsLeastFree}
use Rattle.tb_board.proofs.FirstWaits.{neither, none_set}
use Rattle.tb_board.proofs.Indexed.{ids_stay}
use Rattle.tb_board.proofs.Recurring.{set_places, set_recurring}
use Rattle.tb_board.proofs.task_index.TaskIndex.with_other.Goals as goal

pub returns : goal.returns
returns c = λ ts place was within here.
    let old = c.args.old.now in
    let new = c.args.new.now in
    let stay = ids_stay ts place old new c.requires.id here in
    record {
      places = subst (λ all. ArePlaces all c.args.self.places) (sym stay) was.places;
      least = subst (λ all. IsLeastFree all c.args.self.board c.args.self.least_free) (sym stay) was.least;
      waits = λ m none.
          let parts = neither (may_wake m c.args.self.first_wait) (wakes m new) (sym (c.with-2.ensures m) ∙ none) in
          none_set (wakes m) ts place new (was.waits m parts.0) parts.1;
      templates = record {
        recurring = set_recurring 0 ts place old new c.args.self.templates.places.items was.templates.recurring here c.requires.recurs;
        numbers = λ id. was.templates.numbers id ∙ ap length (sym (set_places id ts place old new here c.requires.parent c.requires.place));
      };
    }
