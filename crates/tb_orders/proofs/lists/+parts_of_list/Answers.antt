use Rattle.std.proofs.Common.{◌≡◌, ◌∙◌, Some, ap, drop, map, option_map, rules, subst, sym, take, true}
use Rattle.serde_json.specs.View.{view}
use Rattle.tb_orders.specs.Lists.{AreOf, are_taken, items_in}
use Rattle.tb_orders.proofs.Halves.{of_halves}
use Rattle.tb_orders.proofs.lists.+parts_of_list.Goals as goal

-- the parts of both halves
pub returns : goal.returns
returns t c =
    let items = c.args.items.items in
    let place = c.split_place-place.result in
    let parts = c.in-Some-2.parts.items in
    let more = c.in-Some-3.more.items in
    let same : c.in_ok-items.field-0.items.items ≡ items = search rules in
    let front : c.split_off.new.self.items ≡ take place items = c.in_ok-rest.ensures.items ∙ ap (take place) same in
    let back : c.in_ok-rest.rest.items ≡ drop place items = c.in_ok-rest.ensures.tail ∙ ap (drop place) same in
    let one = subst (λ o. AreOf (map view c.split_off.new.self.items) (option_map (λ list. list.items) o)) c.in-Some-2.is c.in_ok-parts.ensures in
    let two = subst (λ o. AreOf (map view c.in_ok-rest.rest.items) (option_map (λ list. list.items) o)) c.in-Some-3.is c.in_ok-more.ensures in
    let first : AreOf (map view (take place items)) (Some parts) = subst (λ vs. AreOf (map view vs) (Some parts)) front one in
    let second : AreOf (map view (drop place items)) (Some more) = subst (λ vs. AreOf (map view vs) (Some more)) back two in
    subst (λ xs. (items_in xs ≡ Some (map view items)) × (are_taken xs ≡ true)) (sym c.in_ok-joined.ensures) (of_halves place items parts more first second)
