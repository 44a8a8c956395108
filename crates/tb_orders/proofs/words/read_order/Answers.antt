use Rattle.std.proofs.Common.{◌≡◌, ◌∙◌, ap, drop, inl, map, string_bytes, subst}
use Rattle.std.specs.Vec.Iter.{into_iter_items}
use Rattle.tb_orders.specs.Words.{IsKeptFor, IsOrderOf, has_dash}
use Rattle.tb_orders.proofs.words.read_order.Goals as goal

pub returns-clause-read : goal.returns-clause-read
returns-clause-read g c =
    let given = c.in_ok-words.field-0 in
    let kept = c.in_ok-kept.kept in
    let texts = c.as_slice-3.result.now in
    let is_rest = c.in_ok-words-2.ensures in
    let same : map (λ text. text.now) texts ≡ map string_bytes (drop 1 (into_iter_items given)) =
    ap (map (λ text. text.now)) c.as_slice-3.ensures.value ∙ c.in_ok-texts.ensures ∙ ap (map string_bytes) (c.as_slice-2.ensures.value ∙ is_rest) in
    inl (record {
      words = into_iter_items given;
      given = c.in_ok-words.ensures.given;
      kept = kept;
      is_kept = subst (λ words. IsKeptFor g.S.Started.keeps c.args.started.now (has_dash words) kept) (c.as_slice.ensures.value ∙ is_rest) c.in_ok-kept.ensures;
      is = subst (λ words. IsOrderOf kept words c.order_of.result) same (record {
        order = c.order_of.ensures.order;
        told = c.order_of.ensures.told;
        sent = c.order_of.ensures.sent;
        mine = c.order_of.ensures.mine;
      });
    })
