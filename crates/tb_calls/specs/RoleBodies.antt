-- What people are told of roles, as JSON.
use Rattle.std.specs.Prelude.{ℕ, List, codes, map}
use Rattle.serde_json.specs.Data.{Data, array, number, unsigned, string, object, member, no_members}
use Rattle.serde_json.specs.View.{items_of}
use Rattle.serde_json.specs.Written.{compact_text}
use Rattle.tb_board.specs.declared.world.Role.{Role}
use Rattle.tb_board.specs.declared.world.Role.TheVariants.{Owner, Member, Reader}
use Rattle.tb_calls.specs.declared.role_bodies.BoardRole.{BoardRole}
use Rattle.tb_calls.specs.declared.role_bodies.PersonRole.{PersonRole}

abbrev pub role_word : Role → List ℕ
role_word Owner = codes "owner"
role_word Member = codes "member"
role_word Reader = codes "reader"

unfoldable pub board_role_data : BoardRole → Data
board_role_data r = object
    (member (codes "board") (number (unsigned r.board))
    (member (codes "role") (string (role_word r.role))
    (member (codes "title") (string r.title) no_members)))

unfoldable pub person_role_data : PersonRole → Data
person_role_data r = object
    (member (codes "name") (string r.name)
    (member (codes "role") (string (role_word r.role)) no_members))

-- a person, and the boards on which that person has a role
abbrev pub me_body : List ℕ → List BoardRole → Data
me_body name boards = object
    (member (codes "boards") (array (items_of (map board_role_data boards)))
    (member (codes "name") (string name) no_members))

-- a board, and the people who have a role on it
abbrev pub people_body : ℕ → List PersonRole → Data
people_body board people = object
    (member (codes "board") (number (unsigned board))
    (member (codes "people") (array (items_of (map person_role_data people))) no_members))

abbrev pub me_text : List ℕ → List BoardRole → List ℕ
me_text name boards = compact_text (me_body name boards)

abbrev pub people_text : ℕ → List PersonRole → List ℕ
people_text board people = compact_text (people_body board people)
