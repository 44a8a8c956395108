use Rattle.std.proofs.Common.{Some, ap, arith, option_map, sym, ◌∙◌}
use Rattle.serde_json.specs.Data.{array}
use Rattle.serde_json.specs.View.{items_view, view}
use Rattle.serde_json.proofs.Views.{view-Array}
use Rattle.tb_json.proofs.Bytes.{array_items}
use Rattle.tb_orders.specs.Lists.{array_in}
use Rattle.tb_orders.proofs.Halves.{depth_in}
use Rattle.tb_orders.proofs.lists.array_in.Goals as goal

pub returns-in-Array-clause-value : goal.returns-in-Array-clause-value
returns-in-Array-clause-value c =
    let items = c.in-Array.items in
    let read_as = sym c.in_ok-value.ensures ∙ ap (option_map view) c.in-Some.is ∙ ap (λ v. Some (view v)) c.in-Array.is ∙ ap Some (view-Array items) in
    ap Some (sym (array_items items.items)) ∙ sym (ap array_in read_as)

pub returns-in-Array-clause-nests : goal.returns-in-Array-clause-nests
returns-in-Array-clause-nests c =
    let items = c.in-Array.items in
    let read_as = sym c.in_ok-value.ensures ∙ ap (option_map view) c.in-Some.is ∙ ap (λ v. Some (view v)) c.in-Array.is ∙ ap Some (view-Array items) in
    omega (arith, depth_in c.args.text.now (array (items_view items.items)) read_as)
