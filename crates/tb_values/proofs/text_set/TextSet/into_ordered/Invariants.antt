use Rattle.std.proofs.Common.{◌≡◌, ◌++◌, map, string_bytes}
use Rattle.tb_values.proofs.text_set.TextSet.into_ordered.Given as goal

-- the texts so far, and those to come
abbrev pub invariant-loop-text : goal.invariant-loop-text
invariant-loop-text l = l.list ++ map string_bytes l.text-iterator ≡ l.fn.self
