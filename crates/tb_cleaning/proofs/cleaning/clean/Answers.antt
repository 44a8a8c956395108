use Rattle.std.proofs.Common.{◌≡◌, Option, Some, false, length, map, nat_lt, rules, subst, sym}
use Rattle.std.proofs.lemmas.List.{length-map}
use Rattle.serde_json.specs.View.{view}
use Rattle.tb_cleaning.specs.Cleaning.{IsCleaned}
use Rattle.tb_cleaning.specs.Mark.{without_mark}
use Rattle.tb_cleaning.proofs.Whole.{cleans_some}
use Rattle.tb_cleaning.proofs.cleaning.clean.Goals as goal
use Rattle.tb_json.specs.Import.{items_of}
use Rattle.tb_task.specs.Limits.{most_tasks}

pub returns : goal.returns
returns c =
    let ds = map view c.in-Some.items.items in
    let is : Some ds ≡ items_of (without_mark c.args.text.now) = search rules in
    let many : nat_lt most_tasks (length c.in-Some.items.items) ≡ false = search rules in
    let few = subst (λ n. nat_lt most_tasks n ≡ false) (sym (length-map c.in-Some.items.items view)) many in
    let whole = subst (λ vs. IsCleaned c.args.skips (map view vs) c.in_ok-cleaned_of.field-0) c.as_slice.ensures.value c.in_ok-cleaned_of.ensures in
    cleans_some c.args.skips (items_of (without_mark c.args.text.now)) ds c.in_ok-cleaned_of.field-0 is few whole
