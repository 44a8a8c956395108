-- The bodies of replies, as JSON.
use Rattle.std.specs.Prelude.{ℕ, List, Option, Some, None, codes}
use Rattle.serde_json.specs.Data.{Data, boolean, number, unsigned, string, object, Members, member, no_members}
use Rattle.tb_task.specs.TaskId.{id_text}
use Rattle.tb_task.specs.declared.checks.Field.{Field}
use Rattle.tb_task.specs.declared.checks.Field.TheVariants.{EmptyDescription, BadTag, BadText, BadPair}
use Rattle.tb_core.specs.Refusal.{number_of}
use Rattle.tb_core.specs.declared.command.Answer.{Answer}
use Rattle.tb_core.specs.declared.command.Answer.TheVariants.{OnBoard, OfPerson, NewBoard}
use Rattle.tb_core.specs.declared.command.BoardAnswer.{BoardAnswer}
use Rattle.tb_import.specs.declared.imported.ImportCounts.{ImportCounts}
use Rattle.tb_core.specs.declared.command.AnswerDetail.{AnswerDetail}
use Rattle.tb_core.specs.declared.command.AnswerDetail.TheVariants.{Added, Changed, Imported, TodoImported, Swept}
use Rattle.tb_core.specs.declared.refusal.Refusal.{Refusal}
use Rattle.tb_core.specs.declared.refusal.Refusal.TheVariants.{UnknownCaller, IdReused, NoBoard, NotAllowed, NoTask, WrongStatus, UuidTaken, BadTask, BadTaskAt, TemplateFixed, NoLink, Cycle, Full, NoPerson, LastOwner, NameTaken, KeyDiffers}

abbrev pub refusal_name : Refusal → List ℕ
refusal_name UnknownCaller = codes "UnknownCaller"
refusal_name IdReused = codes "IdReused"
refusal_name NoBoard = codes "NoBoard"
refusal_name NotAllowed = codes "NotAllowed"
refusal_name NoTask = codes "NoTask"
refusal_name WrongStatus = codes "WrongStatus"
refusal_name UuidTaken = codes "UuidTaken"
refusal_name (BadTask field) = codes "BadTask"
refusal_name (BadTaskAt at field) = codes "BadTask"
refusal_name TemplateFixed = codes "TemplateFixed"
refusal_name NoLink = codes "NoLink"
refusal_name Cycle = codes "Cycle"
refusal_name Full = codes "Full"
refusal_name NoPerson = codes "NoPerson"
refusal_name LastOwner = codes "LastOwner"
refusal_name NameTaken = codes "NameTaken"
refusal_name KeyDiffers = codes "KeyDiffers"

abbrev pub field_name : Field → List ℕ
field_name EmptyDescription = codes "EmptyDescription"
field_name BadTag = codes "BadTag"
field_name BadText = codes "BadText"
field_name BadPair = codes "BadPair"

-- what is wrong with the task, where that is why
abbrev pub refused_field : Refusal → Option (List ℕ)
refused_field UnknownCaller = None
refused_field IdReused = None
refused_field NoBoard = None
refused_field NotAllowed = None
refused_field NoTask = None
refused_field WrongStatus = None
refused_field UuidTaken = None
refused_field (BadTask field) = Some (field_name field)
refused_field (BadTaskAt at field) = Some (field_name field)
refused_field TemplateFixed = None
refused_field NoLink = None
refused_field Cycle = None
refused_field Full = None
refused_field NoPerson = None
refused_field LastOwner = None
refused_field NameTaken = None
refused_field KeyDiffers = None

-- which task of a list it is, counted from 0, where that is why
abbrev pub refused_place : Refusal → Option ℕ
refused_place UnknownCaller = None
refused_place IdReused = None
refused_place NoBoard = None
refused_place NotAllowed = None
refused_place NoTask = None
refused_place WrongStatus = None
refused_place UuidTaken = None
refused_place (BadTask field) = None
refused_place (BadTaskAt at field) = Some at
refused_place TemplateFixed = None
refused_place NoLink = None
refused_place Cycle = None
refused_place Full = None
refused_place NoPerson = None
refused_place LastOwner = None
refused_place NameTaken = None
refused_place KeyDiffers = None

-- the members in front of which a field stands, if there is one
abbrev pub with_field : Option (List ℕ) → Members → Data
with_field None members = object members
with_field (Some field) members = object (member (codes "field") (string field) members)

-- and in front of the field the place of the task
abbrev pub with_place : Option ℕ → Option (List ℕ) → Members → Data
with_place None field members = with_field field members
with_place (Some at) None members = object members
with_place (Some at) (Some field) members =
    object (member (codes "at") (number (unsigned at))
    (member (codes "field") (string field) members))

abbrev pub refusal_body : Refusal → Data
refusal_body r = with_place (refused_place r) (refused_field r)
    (member (codes "name") (string (refusal_name r))
    (member (codes "refused") (number (unsigned (number_of r))) no_members))

unfoldable pub added_body : BoardAnswer → List ℕ → ℕ → Data
added_body a uuid dropped = object
    (member (codes "added") (number (unsigned a.added))
    (member (codes "board") (number (unsigned a.board))
    (member (codes "dropped") (number (unsigned dropped))
    (member (codes "more") (boolean a.more)
    (member (codes "uuid") (string uuid) no_members)))))

unfoldable pub changed_body : BoardAnswer → List ℕ → Data
changed_body a uuid = object
    (member (codes "added") (number (unsigned a.added))
    (member (codes "board") (number (unsigned a.board))
    (member (codes "more") (boolean a.more)
    (member (codes "uuid") (string uuid) no_members))))

unfoldable pub imported_body : BoardAnswer → ImportCounts → Data
imported_body a c = object
    (member (codes "added") (number (unsigned a.added))
    (member (codes "board") (number (unsigned a.board))
    (member (codes "dropped") (number (unsigned c.dropped))
    (member (codes "known") (number (unsigned c.known))
    (member (codes "more") (boolean a.more)
    (member (codes "new") (number (unsigned c.new))
    (member (codes "orphans") (number (unsigned c.orphans))
    (member (codes "unlinked") (number (unsigned c.unlinked)) no_members))))))))

unfoldable pub todo_imported_body : BoardAnswer → ℕ → ℕ → Data
todo_imported_body a known new = object
    (member (codes "added") (number (unsigned a.added))
    (member (codes "board") (number (unsigned a.board))
    (member (codes "known") (number (unsigned known))
    (member (codes "more") (boolean a.more)
    (member (codes "new") (number (unsigned new)) no_members)))))

unfoldable pub swept_body : BoardAnswer → Data
swept_body a = object
    (member (codes "added") (number (unsigned a.added))
    (member (codes "board") (number (unsigned a.board))
    (member (codes "more") (boolean a.more) no_members)))

abbrev pub detail_body : BoardAnswer → AnswerDetail → Data
detail_body a (Added id dropped) = added_body a (id_text id) dropped
detail_body a (Changed id) = changed_body a (id_text id)
detail_body a (Imported counts) = imported_body a counts
detail_body a (TodoImported known new) = todo_imported_body a known new
detail_body a Swept = swept_body a

abbrev pub person_body : List ℕ → Data
person_body name = object (member (codes "person") (string name) no_members)

abbrev pub board_body : ℕ → Data
board_body n = object (member (codes "board") (number (unsigned n)) no_members)

abbrev pub answer_body : Answer → Data
answer_body (OnBoard a) = detail_body a a.detail
answer_body (OfPerson name) = person_body name
answer_body (NewBoard n) = board_body n
