-- A person by name.
use Rattle.std.specs.Prelude.{◌≡◌, ℕ, List, Option, Some, None, find}
use Rattle.tb_board.specs.declared.world.World.{World}
use Rattle.tb_board.specs.World.{has_name, number_of}
use Rattle.tb_lookup.specs.declared.people.StoredPerson.{StoredPerson}

-- nobody has the name, or the first person of the name has this number, and this key or none
abbrev pub IsPersonFound : World → List ℕ → Option StoredPerson → Type 0
IsPersonFound w name None = (number_of w name ≡ None) × (find (has_name name) w.people ≡ None)
IsPersonFound w name (Some p) = (number_of w name ≡ Some p.number)
    × (find (has_name name) w.people ≡ Some (record { name = name; key = p.key }))
