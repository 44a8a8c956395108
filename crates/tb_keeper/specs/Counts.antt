-- How many people and boards come in.
use Rattle.std.specs.Prelude.{ℕ, Bool, true, false}
use Rattle.tb_board.specs.declared.change.Change.{Change}
use Rattle.tb_board.specs.declared.change.Change.TheVariants.{PutTask, AddPerson, SetKey, AddBoard, SetTitle, SetRole, SetGone, TakeGone, SetAhead}

-- one more where it holds
abbrev pub one_if : Bool → ℕ
one_if true = 1
one_if false = 0

unfoldable pub is_new_person : Change → Bool
is_new_person (PutTask n place t) = false
is_new_person (AddPerson name key) = true
is_new_person (SetKey name key) = false
is_new_person (AddBoard n title) = false
is_new_person (SetTitle n title) = false
is_new_person (SetRole n person role) = false
is_new_person (SetGone n g) = false
is_new_person (TakeGone n id k) = false
is_new_person (SetAhead n ahead) = false

unfoldable pub is_new_board : Change → Bool
is_new_board (PutTask n place t) = false
is_new_board (AddPerson name key) = false
is_new_board (SetKey name key) = false
is_new_board (AddBoard n title) = true
is_new_board (SetTitle n title) = false
is_new_board (SetRole n person role) = false
is_new_board (SetGone n g) = false
is_new_board (TakeGone n id k) = false
is_new_board (SetAhead n ahead) = false
