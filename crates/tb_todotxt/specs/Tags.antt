-- Tags in byte order.
use Rattle.std.specs.Prelude.{ℕ, List, []}
use Rattle.tb_values.specs.Texts.{with_texts}

-- the tags in byte order, each once
abbrev pub in_order : List (List ℕ) → List (List ℕ)
in_order tags = with_texts [] tags
