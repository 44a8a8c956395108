use Rattle.std.proofs.Common.{◌≡◌, ◌∙◌, ℕ, ◌+◌, ◌<◌, List, length, take, get_or, sym, ap, subst, arith}
use Rattle.std.proofs.lemmas.List.Sums.{fold_more}
use Rattle.sqlite.specs.Held.{state}
use Rattle.sqlite.proofs.StateLemmas.{survives_then}
use Rattle.tb_sql_tables.specs.Content.{Content}
use Rattle.tb_sql_tables.specs.Statements.{Changes}
use Rattle.tb_sql_tables.proofs.Changing.{changes_then}
use Rattle.tb_sql.specs.declared.changes.RowChange.{RowChange}
use Rattle.tb_sql.specs.Writing.{changed_by, changed_by_all}
use Rattle.tb_sql.proofs.changes.apply_changes.Goals as goal

one_more : (changes : List RowChange) (i : ℕ) (change : RowChange) (content : Content) → i < length changes → change ≡ get_or changes i change
    → changed_by change (changed_by_all (take i changes) content) ≡ changed_by_all (take (i + 1) changes) content
one_more changes i change content low is =
    let apply = λ (c : Content) (x : RowChange). changed_by x c in
    ap (λ x. changed_by x (changed_by_all (take i changes) content)) is ∙ sym (fold_more apply content changes i change low)

pub changes-preserved : goal.changes-preserved
changes-preserved g c =
    let old = state g.S.Store c.args.tx.now.conn.now in
    let mid = state g.S.Store c.changes.tx.conn.now in
    let new = state g.S.Store c.apply_change.new.tx.conn.now in
    let so_far = changed_by_all (take c.changes.change-index c.args.changes.now) in
    let step = changed_by c.change-item.result in
    record {
      same_reference = c.apply_change.ensures.same_reference ∙ c.changes.invariant.same_reference;
      survives = survives_then old mid new _ _ (λ _. ⊥) (λ _ db none. none) (λ _ db none. none) c.changes.invariant.survives c.apply_change.ensures.survives;
      put = λ clean inside was_open.
          let before : Changes so_far old mid = c.changes.invariant.put (omega (arith, c.apply_change.ensures.survives.clean)) inside was_open in
          let one : Changes step mid new = c.in_ok-apply_change.ensures.put clean before.shown.mode in
          subst (λ change. Changes change old new) (λ i content. one_more c.args.changes.now c.changes.change-index c.change-item.result content c.changes-test.true c.change-item.is i)
          (changes_then so_far step old mid new before one);
    }
