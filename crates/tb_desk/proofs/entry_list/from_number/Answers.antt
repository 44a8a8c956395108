use Rattle.std.proofs.Common.{◌∙◌, ap, drop, take}
use Rattle.std.proofs.lemmas.List.{drop_min, take_min}
use Rattle.tb_desk.proofs.entry_list.from_number.Goals as goal

pub returns : goal.returns
returns c =
    let rest = c.split_at.result.1.now in
    let all = c.args.entries.now in
    c.split_at-2.ensures.front
    ∙ ap (λ n. take n rest) c.min.ensures
    ∙ take_min 100 rest
    ∙ ap (take 100)
    (c.split_at.ensures.back
    ∙ ap (λ n. drop n all) c.min-skipped.ensures
    ∙ drop_min c.saturating_sub.result all
    ∙ ap (λ n. drop n all) c.saturating_sub.ensures)
