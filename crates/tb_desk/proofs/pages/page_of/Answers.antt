use Rattle.std.proofs.Common.{◌≡◌, ◌∙◌, ap, length, map, rules}
use Rattle.tb_board.specs.Tasks.{ids}
use Rattle.tb_history.specs.Pages.{chosen, shown_entry}
use Rattle.tb_desk.specs.EntryList.{content_among, number_and_entry}
use Rattle.tb_desk.specs.ListKeep.{named}
use Rattle.tb_desk.proofs.Entries.{counted}
use Rattle.tb_desk.proofs.pages.page_of.Goals as goal

pub returns : goal.returns
returns c =
    let show = shown_entry (content_among (map named c.args.kept.now.entries)) (ids c.args.board.now.tasks) in
    let all = c.in_ok-all.all.items in
    let size : c.in-Ok.last ≡ length all = search rules in
    let last = size ∙ counted c.args.board.now.number c.args.entries.now all c.in_ok-all.ensures in
    let entries =
    c.in_ok-entries.ensures
    ∙ ap (λ l. map show (chosen c.args.which (map number_and_entry l))) c.as_slice.ensures.value
    ∙ ap (λ l. map show (chosen c.args.which l)) c.in_ok-all.ensures in
    λ i. record { last = last i; entries = entries i }
