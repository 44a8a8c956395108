-- Identifiers that are drawn.
use Rattle.std.specs.Prelude.{◌≡◌, ℕ, length, List, Option, Some, None}
use Rattle.tb_orders.specs.Identifier.{random_id}

-- it is that of the bytes that were given meanwhile; there is none where none were given
abbrev pub IsDrawn : {G : Type 0} → (Option (List ℕ) → G → G → Type 0) → G → G → Option ℕ → Type 0
IsDrawn gives before after None = gives None before after
IsDrawn gives before after (Some id) =
    (bytes : List ℕ) × (length bytes ≡ 16) × gives (Some bytes) before after × (id ≡ random_id bytes)
