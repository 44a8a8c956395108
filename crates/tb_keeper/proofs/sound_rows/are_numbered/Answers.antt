use Rattle.std.proofs.Common.{◌≡◌, ◌∙◌, ◌+◌, drop, true≢false, refl, sym, subst}
use Rattle.std.specs.Prelude.{◌↔◌}
use Rattle.tb_sql_tables.specs.declared.rows.BoardRow.{BoardRow}
use Rattle.tb_sql_pages.specs.Last.{AreNumberedFrom}
use Rattle.tb_keeper.specs.SoundRows.{AreNumbered}
use Rattle.tb_keeper.proofs.SoundRows.{numbers_join, numbers_split}
use Rattle.tb_keeper.proofs.sound_rows.are_numbered.Goals as goal

pub loop-row-preserved : goal.loop-row-preserved
loop-row-preserved c =
    let key = λ (row : BoardRow). row.id in
    let row = c.row-item.result in
    let at = c.loop-row.row-index in
    let left = drop (at + 1) c.args.rows.now in
    let is : row.id ≡ c.loop-row.next = sym c.from.ensures ∙ c.if-from-next.false in
    let next : c.loop-row.next ≡ c.from-next.result = sym is ∙ sym c.from-next.ensures in
    let both = c.loop-row.invariant in
    subst (λ n. AreNumberedFrom key (n + 1) left ↔ AreNumbered c.args.rows.now) next (
      λ rest. both.0 (numbers_join key c.args.rows.now at row c.loop-row-test.true c.row-item.is c.loop-row.next (is, rest)),
      λ all. (numbers_split key c.args.rows.now at row c.loop-row-test.true c.row-item.is c.loop-row.next (both.1 all)).1,
    )

pub returns-then-from-next : goal.returns-then-from-next
returns-then-from-next c = (
  λ so. absurd (true≢false (sym so)),
  λ all.
      let split = numbers_split (λ (row : BoardRow). row.id) c.args.rows.now c.loop-row.row-index c.row-item.result c.loop-row-test.true c.row-item.is c.loop-row.next (c.loop-row.invariant.1 all) in
      absurd (c.if-from-next.true (c.from.ensures ∙ split.0)),
)
