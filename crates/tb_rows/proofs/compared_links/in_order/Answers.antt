use Rattle.std.proofs.Common.{rules}
use Rattle.std.proofs.lemmas.List.Sorted.{answers_always}
use Rattle.tb_sql_tables.specs.declared.rows.LinkRow.{LinkRow}
use Rattle.tb_rows.proofs.compared_links.in_order.Goals as goal

pub returns-clause-sorted : goal.returns-clause-sorted
returns-clause-sorted c = c.sort_unstable_by_key.ensures.sorted (λ (a : LinkRow). (a.board, a.place, a.target)) (answers_always _ _ _ (λ f a r h k. search rules))
