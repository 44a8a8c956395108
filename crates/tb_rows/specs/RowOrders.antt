-- The orders in which links and instances are compared.
use Rattle.std.specs.Ordering.{nat_cmp, ordering_then}
use Rattle.std.specs.declared.cmp.Ordering.{Ordering}
use Rattle.tb_sql_tables.specs.declared.rows.LinkRow.{LinkRow}
use Rattle.tb_sql_tables.specs.declared.rows.InstanceRow.{InstanceRow}

-- by board, place and target
abbrev pub link_order : LinkRow → LinkRow → Ordering
link_order a b =
    ordering_then (ordering_then (nat_cmp a.board b.board) (nat_cmp a.place b.place))
    (nat_cmp a.target b.target)

-- by board, template, number and place
abbrev pub instance_order : InstanceRow → InstanceRow → Ordering
instance_order a b =
    ordering_then (ordering_then
    (ordering_then (nat_cmp a.board b.board) (nat_cmp a.template b.template))
    (nat_cmp a.imask b.imask)) (nat_cmp a.place b.place)
