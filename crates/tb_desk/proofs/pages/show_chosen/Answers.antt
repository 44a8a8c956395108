use Rattle.std.proofs.Common.{◌∙◌, ◌-◌, ap, map, sym}
use Rattle.std.proofs.lemmas.Result.{IfOk-weaker}
use Rattle.tb_board.specs.Tasks.{ids}
use Rattle.tb_history.specs.Pages.{chosen, last_of, shown_entry}
use Rattle.tb_desk.specs.EntryList.{content_among, number_and_entry}
use Rattle.tb_desk.specs.ListKeep.{named}
use Rattle.tb_desk.proofs.Entries.{from-map, last_of-map}
use Rattle.tb_desk.proofs.pages.show_chosen.Goals as goal

pub returns-in-Last : goal.returns-in-Last
returns-in-Last c =
    let show = shown_entry (content_among (map named c.args.kept.now.entries)) (ids c.args.board.now.tasks) in
    let all = c.args.entries.now in
    IfOk-weaker c.show_all.result _ _
    (λ shown told.
    told
    ∙ ap (λ l. map show (map number_and_entry l)) c.last_of.ensures
    ∙ ap (map show) (last_of-map number_and_entry 100 all)
    ∙ ap (λ which. map show (chosen which (map number_and_entry all))) (sym c.in-Last.is))
    c.show_all.ensures

pub returns-in-From : goal.returns-in-From
returns-in-From c =
    let show = shown_entry (content_among (map named c.args.kept.now.entries)) (ids c.args.board.now.tasks) in
    let all = c.args.entries.now in
    IfOk-weaker c.show_all-in-From.result _ _
    (λ shown told.
    told
    ∙ ap (λ l. map show (map number_and_entry l)) c.from_number.ensures
    ∙ ap (map show) (from-map number_and_entry 100 (c.in-From.number - 1) all)
    ∙ ap (λ which. map show (chosen which (map number_and_entry all))) (sym c.in-From.is))
    c.show_all-in-From.ensures

pub returns-in_ok-found-in-OfPlace : goal.returns-in_ok-found-in-OfPlace
returns-in_ok-found-in-OfPlace c =
    let show = shown_entry (content_among (map named c.args.kept.now.entries)) (ids c.args.board.now.tasks) in
    let found = c.in_ok-found-in-OfPlace.found.items in
    IfOk-weaker c.show_all-in-OfPlace.result _ _
    (λ shown told.
    told
    ∙ ap (λ l. map show (map number_and_entry l)) (c.last_of-in-OfPlace.ensures ∙ ap (last_of 100) c.as_slice.ensures.value)
    ∙ ap (map show) (last_of-map number_and_entry 100 found ∙ ap (last_of 100) c.in_ok-found-in-OfPlace.ensures)
    ∙ ap (λ which. map show (chosen which (map number_and_entry c.args.entries.now))) (sym c.in-OfPlace.is))
    c.show_all-in-OfPlace.ensures
