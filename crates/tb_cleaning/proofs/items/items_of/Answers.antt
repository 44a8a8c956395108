use Rattle.std.proofs.Common.{Some, option_map, sym, ap, ◌∙◌}
use Rattle.serde_json.specs.View.{view}
use Rattle.serde_json.proofs.Views.{view-Array}
use Rattle.tb_json.specs.Import.{items_of_json}
use Rattle.tb_json.proofs.Bytes.{array_items}
use Rattle.tb_cleaning.proofs.items.items_of.Goals as goal

pub returns-in-Array : goal.returns-in-Array
returns-in-Array c =
    let items = c.in-Array.items in
    let read_as = sym c.in_ok-value.ensures ∙ ap (option_map view) c.in-Some.is ∙ ap (λ v. Some (view v)) c.in-Array.is ∙ ap Some (view-Array items) in
    ap Some (sym (array_items items.items)) ∙ sym (ap (items_of_json c.args.text.now) read_as)
