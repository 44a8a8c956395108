-- What the types of the values in a change keep of them.
use Rattle.std.specs.Prelude.{◌≡◌, IfSome, true}
use Rattle.tb_board.specs.Ahead.{is_ahead}
use Rattle.tb_board.specs.Names.{is_key, is_name, is_title}
use Rattle.tb_board.specs.declared.change.Change.{Change}
use Rattle.tb_board.specs.declared.change.Change.TheVariants.{PutTask, AddPerson, SetKey, AddBoard, SetTitle, SetRole, SetGone, TakeGone, SetAhead}
use Rattle.tb_rows.specs.Forms.{HasMark, HasTaskForm}

abbrev pub HasChangeForm : Change → Type 0
HasChangeForm (PutTask n place t) = HasTaskForm t
HasChangeForm (AddPerson name key) = (is_name name ≡ true) × (is_key key ≡ true)
HasChangeForm (SetKey name key) = IfSome key (λ k. is_key k ≡ true)
HasChangeForm (AddBoard n title) = is_title title ≡ true
HasChangeForm (SetTitle n title) = is_title title ≡ true
HasChangeForm (SetRole n person role) = Unit {0}
HasChangeForm (SetGone n g) = HasMark g
HasChangeForm (TakeGone n id k) = Unit {0}
HasChangeForm (SetAhead n ahead) = is_ahead ahead ≡ true
