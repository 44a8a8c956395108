-- Extra attributes by their names.
use Rattle.std.specs.Ordering.{nat_cmp}
use Rattle.std.specs.Cmp.Lexicographic.{slice_cmp}
use Rattle.std.specs.declared.cmp.Ordering.{Ordering}
use Rattle.tb_task.specs.declared.extra.Extra.{Extra}

-- byte order of the names
abbrev pub by_name : Extra → Extra → Ordering
by_name a b = slice_cmp nat_cmp a.name b.name
