-- What kind of command a deed was: its word, and its number in a file.
use Rattle.std.specs.Prelude.{ℕ, ◌==◌, List, [], ◌∷◌, Option, codes, find}
use Rattle.tb_core.specs.declared.action.Action.{Action}
use Rattle.tb_core.specs.declared.action.Action.TheVariants as action
use Rattle.tb_core.specs.declared.command.Import.{Import as ImportedTasks}
use Rattle.tb_core.specs.declared.command.Import.TheVariants.{Json, Todo}
use Rattle.tb_deeds.specs.declared.kind.DeedKind.{DeedKind}
use Rattle.tb_deeds.specs.declared.kind.DeedKind.TheVariants.{Add, Done, Delete, Reopen, Start, Stop, Modify, Annotate, Denotate, Depend, Undepend, Import, ImportTodo, Role, Ahead, Sweep, Take, Title}

-- the word of the calls that do it
abbrev pub word_of : DeedKind → List ℕ
word_of Add = codes "add"
word_of Done = codes "done"
word_of Delete = codes "delete"
word_of Reopen = codes "reopen"
word_of Start = codes "start"
word_of Stop = codes "stop"
word_of Modify = codes "modify"
word_of Annotate = codes "annotate"
word_of Denotate = codes "denotate"
word_of Depend = codes "depend"
word_of Undepend = codes "undepend"
word_of Import = codes "import"
word_of ImportTodo = codes "import-todo"
word_of Role = codes "role"
word_of Ahead = codes "ahead"
word_of Sweep = codes "sweep"
word_of Take = codes "take"
word_of Title = codes "title"

abbrev pub number_of : DeedKind → ℕ
number_of Add = 1
number_of Done = 2
number_of Delete = 3
number_of Reopen = 4
number_of Start = 5
number_of Stop = 6
number_of Modify = 7
number_of Annotate = 8
number_of Denotate = 9
number_of Depend = 10
number_of Undepend = 11
number_of Import = 12
number_of ImportTodo = 13
number_of Role = 14
number_of Ahead = 15
number_of Sweep = 16
number_of Take = 17
number_of Title = 18

abbrev pub all_kinds : List DeedKind
all_kinds = Add ∷ Done ∷ Delete ∷ Reopen ∷ Start ∷ Stop ∷ Modify ∷ Annotate ∷ Denotate ∷ Depend
    ∷ Undepend ∷ Import ∷ ImportTodo ∷ Role ∷ Ahead ∷ Sweep ∷ Take ∷ Title ∷ []

-- the kind that has this number, if one has it
unfoldable pub kind_of_number : ℕ → Option DeedKind
kind_of_number n = find (λ kind. n == number_of kind) all_kinds

abbrev pub kind_of_action : Action → DeedKind
kind_of_action action.Done = Done
kind_of_action action.Delete = Delete
kind_of_action action.Reopen = Reopen
kind_of_action action.Start = Start
kind_of_action action.Stop = Stop
kind_of_action (action.Annotate text) = Annotate
kind_of_action (action.Denotate text) = Denotate

abbrev pub kind_of_import : ImportedTasks → DeedKind
kind_of_import (Json tasks) = Import
kind_of_import (Todo tasks) = ImportTodo
