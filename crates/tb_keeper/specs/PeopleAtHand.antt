-- What a keeper knows of people without a look: how many there are, and the one that was found last, with a role.
use Rattle.std.specs.Prelude.{◌≡◌, ◌==◌, ℕ, Bool, true, false, List, Option, Some, None, if◌then◌else◌}
use Rattle.std.specs.List.{list_any}
use Rattle.std.specs.Option.{option_map}
use Rattle.std.specs.Str.{bytes_eq}
use Rattle.sqlite.specs.State.{State as Database}
use Rattle.tb_board.specs.declared.change.Change.{Change}
use Rattle.tb_board.specs.declared.change.Change.TheVariants.{PutTask, AddPerson, SetKey, AddBoard, SetTitle, SetRole, SetGone, TakeGone, SetAhead}
use Rattle.tb_board.specs.declared.world.World.{World}
use Rattle.tb_lookup.specs.declared.people.StoredPerson.{StoredPerson}
use Rattle.tb_lookup.specs.declared.roles.RolesFound.{RolesFound}
use Rattle.tb_lookup.specs.People.{IsPersonFound}
use Rattle.tb_lookup.specs.Reopening.{OfState}
use Rattle.tb_lookup.specs.Roles.{AreRolesFound}
use Rattle.tb_keeper.specs.declared.people_at_hand.KnownPerson.{KnownPerson}
use Rattle.tb_keeper.specs.declared.people_at_hand.KnownRoles.{KnownRoles}
use Rattle.tb_keeper.specs.declared.people_at_hand.People.{People}

-- nothing is known of the roles of the person of a number, or it is the world's
abbrev pub AreRolesKnown : World → ℕ → Option KnownRoles → Type 0
AreRolesKnown w number None = Unit {0}
AreRolesKnown w number (Some r) = AreRolesFound w r.board number None r.found

-- nobody is known, or the world has the known person under that name, with these roles
abbrev pub IsKnownIn : World → Option KnownPerson → Type 0
IsKnownIn w None = Unit {0}
IsKnownIn w (Some p) =
    IsPersonFound w p.name (Some p.found) × AreRolesKnown w p.found.number p.roles

-- the known person, if it is known under this name
abbrev pub known_as : Option KnownPerson → List ℕ → Option StoredPerson
known_as None name = None
known_as (Some p) name = if bytes_eq p.name name then Some p.found else None

-- what is known of roles on a board
abbrev pub roles_of : Option KnownRoles → ℕ → Option RolesFound
roles_of None board = None
roles_of (Some r) board = if r.board == board then Some r.found else None

-- where the caller is the known person
abbrev pub own_roles : Option KnownPerson → ℕ → ℕ → Option RolesFound
own_roles None board caller = None
own_roles (Some p) board caller =
    if p.found.number == caller then roles_of p.roles board else None

-- and nobody else is asked for
abbrev pub known_roles : Option KnownPerson → ℕ → ℕ → Option ℕ → Option RolesFound
known_roles known board caller None = own_roles known board caller
known_roles known board caller (Some other) = None

-- the person with what was found of roles on a board, where the caller is that person
abbrev pub with_roles : ℕ → ℕ → RolesFound → KnownPerson → KnownPerson
with_roles board caller found p =
    if p.found.number == caller
    then record p { roles = Some (record { board = board; found = found }) } else p

-- who is known after a look at roles
abbrev pub known_with : Option KnownPerson → ℕ → ℕ → Option ℕ → RolesFound → Option KnownPerson
known_with known board caller None found = option_map (with_roles board caller found) known
known_with known board caller (Some other) found = known

-- after a look there are as many people as before, and who is known is the world's if it was so before
pub record AreStillKnown (old new : Database) (before after : People) : Type 0 where
  pub count_is : after.count ≡ before.count
  pub known_is : OfState old new
      (λ s. IsKnownIn s.world before.known → IsKnownIn s.world after.known)

-- the change touches people or their roles
abbrev pub touches_people : Change → Bool
touches_people (PutTask n place t) = false
touches_people (AddPerson name key) = true
touches_people (SetKey name key) = true
touches_people (AddBoard n title) = false
touches_people (SetTitle n title) = false
touches_people (SetRole n person role) = true
touches_people (SetGone n g) = false
touches_people (TakeGone n id k) = false
touches_people (SetAhead n ahead) = false

-- nobody is known after changes that touch people or roles; after others it is as before
abbrev pub known_after : Option KnownPerson → List Change → Option KnownPerson
known_after known changes = if list_any touches_people changes then None else known
