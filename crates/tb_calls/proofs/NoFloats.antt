-- No number in a body is a float.
use Rattle.std.proofs.Common.{◌≡◌, ℕ, List, false, refl}
use Rattle.serde_json.specs.Written.{has_float}
use Rattle.tb_task.specs.TaskId.{id_text}
use Rattle.tb_core.specs.declared.command.Answer.{Answer}
use Rattle.tb_core.specs.declared.command.Answer.TheVariants.{OnBoard, OfPerson, NewBoard}
use Rattle.tb_core.specs.declared.command.BoardAnswer.{BoardAnswer}
use Rattle.tb_import.specs.declared.imported.ImportCounts.{ImportCounts}
use Rattle.tb_core.specs.declared.command.AnswerDetail.{AnswerDetail}
use Rattle.tb_core.specs.declared.command.AnswerDetail.TheVariants.{Added, Changed, Imported, TodoImported, Swept}
use Rattle.tb_calls.specs.Bodies.{added_body, answer_body, changed_body, swept_body, imported_body, todo_imported_body, detail_body}

added_without_float : (a : BoardAnswer) (uuid : List ℕ) (dropped : ℕ) → has_float (added_body a uuid dropped) ≡ false
unfolding added_body
added_without_float a uuid dropped = refl

changed_without_float : (a : BoardAnswer) (uuid : List ℕ) → has_float (changed_body a uuid) ≡ false
unfolding changed_body
changed_without_float a uuid = refl

imported_without_float : (a : BoardAnswer) (c : ImportCounts) → has_float (imported_body a c) ≡ false
unfolding imported_body
imported_without_float a c = refl

todo_imported_without_float : (a : BoardAnswer) (known new : ℕ) → has_float (todo_imported_body a known new) ≡ false
unfolding todo_imported_body
todo_imported_without_float a known new = refl

swept_without_float : (a : BoardAnswer) → has_float (swept_body a) ≡ false
unfolding swept_body
swept_without_float a = refl

detail_without_float : (a : BoardAnswer) (detail : AnswerDetail) → has_float (detail_body a detail) ≡ false
detail_without_float a (Added id dropped) = added_without_float a (id_text id) dropped
detail_without_float a (Changed id) = changed_without_float a (id_text id)
detail_without_float a (Imported counts) = imported_without_float a counts
detail_without_float a (TodoImported known new) = todo_imported_without_float a known new
detail_without_float a Swept = swept_without_float a

pub answer_without_float : (a : Answer) → has_float (answer_body a) ≡ false
answer_without_float (OnBoard a) = detail_without_float a a.detail
answer_without_float (OfPerson name) = refl
answer_without_float (NewBoard n) = refl
