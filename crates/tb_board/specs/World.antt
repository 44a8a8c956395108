-- People, boards and roles.
use Rattle.std.specs.Prelude.{ℕ, ◌+◌, Bool, true, false, ◌&&◌, ◌==◌, List, [], ◌∷◌, Option, Some, None, find, position, codes}
use Rattle.std.specs.Option.{option_and_then, option_map}
use Rattle.std.specs.List.{count_by}
use Rattle.std.specs.Str.{bytes_eq}
use Rattle.tb_board.specs.declared.board.Board.{Board}
use Rattle.tb_board.specs.declared.world.Person.{Person}
use Rattle.tb_board.specs.declared.world.Role.{Role}
use Rattle.tb_board.specs.declared.world.Role.TheVariants.{Owner, Member, Reader}
use Rattle.tb_board.specs.declared.world.RoleOn.{RoleOn}
use Rattle.tb_board.specs.declared.world.World.{World}

abbrev pub has_name : List ℕ → Person → Bool
has_name name p = bytes_eq p.name name

-- the number of the first person of this name, from 1
abbrev pub number_of : World → List ℕ → Option ℕ
number_of w name = option_map (λ place. place + 1) (position (has_name name) w.people)

-- the key of the first person of this name, who may have none
abbrev pub key_of : World → List ℕ → Option (List ℕ)
key_of w name = option_and_then (λ (p : Person). p.key) (find (has_name name) w.people)

-- there is a key, and it is this one
-- Rule: who has no key is unknown. Refused as UnknownCaller. Tried by person_key.
abbrev pub has_key : Option (List ℕ) → List ℕ → Bool
has_key None key = false
has_key (Some own) key = bytes_eq own key

abbrev pub has_number : ℕ → Board → Bool
has_number n b = b.number == n

abbrev pub find_board : World → ℕ → Option Board
find_board w n = find (has_number n) w.boards

abbrev pub is_role_of : ℕ → ℕ → RoleOn → Bool
is_role_of board person r = (r.board == board) && (r.person == person)

-- the role of a person on a board
abbrev pub role_of : World → ℕ → ℕ → Option Role
role_of w board person =
    option_map (λ (r : RoleOn). r.role) (find (is_role_of board person) w.roles)

abbrev pub is_owner : Role → Bool
is_owner Owner = true
is_owner Member = false
is_owner Reader = false

-- a reader only looks
abbrev pub may_change : Role → Bool
may_change Owner = true
may_change Member = true
may_change Reader = false

abbrev pub owns : ℕ → RoleOn → Bool
owns board r = (r.board == board) && is_owner r.role

-- how many owners a board has
abbrev pub owners : World → ℕ → ℕ
owners w board = count_by (owns board) w.roles

-- one person, who owns the one board
abbrev pub opening : List ℕ → List ℕ → World
opening name key = record {
  people = record { name = name; key = Some key } ∷ [];
  boards = record { number = 1; title = codes "board"; tasks = []; gone = []; ahead = 1 } ∷ [];
  roles = record { board = 1; person = 1; role = Owner } ∷ [];
}

-- a new board of this number, which looks one ahead
abbrev pub empty_board : ℕ → List ℕ → Board
empty_board n title = record { number = n; title = title; tasks = []; gone = []; ahead = 1 }
