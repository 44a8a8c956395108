-- A task that `check` takes can be stored and read back.
use Rattle.std.proofs.Common.{◌≡◌, ℕ, false, ◌||◌, List, [], ◌∷◌, refl, arith}
use Rattle.std.specs.List.{list_any, AllByRecursion}
use Rattle.std.proofs.lemmas.Bool.{or_parts}
use Rattle.tb_task.specs.declared.task.Task.{Task}
use Rattle.tb_task.specs.declared.extra.Extra.{Extra}
use Rattle.tb_task.specs.Checks.{has_bad_pair, has_bad_recurrence, has_half_link, has_known_name}
use Rattle.tb_task.specs.Storable.{IsStorableExtra, IsNotEmpty}
use Rattle.tb_task.specs.Ranges.{IsNamedExtra}

pub own_names : (t : Task) → has_bad_pair t ≡ false → list_any has_known_name t.extras ≡ false
unfolding has_bad_pair
own_names t h = (or_parts (has_bad_recurrence t || has_half_link t) (list_any has_known_name t.extras) h).1

-- extra attributes of which none has a name of the format's own
pub storable_extras : (es : List Extra) → AllByRecursion IsNamedExtra es → list_any has_known_name es ≡ false → AllByRecursion IsStorableExtra es
storable_extras [] named own = tt
storable_extras (e ∷ es) named own =
    let parts = or_parts (has_known_name e) (list_any has_known_name es) own in
    (record { named = named.0.named; own = parts.0; value = named.0.value }, storable_extras es named.1 parts.1)

-- a text that isn't the empty one
pub not_empty : (s : List ℕ) → (s ≡ [] → ⊥) → IsNotEmpty s
not_empty [] h = absurd (h refl)
not_empty (c ∷ cs) h = omega arith
