-- Importing tasks of the task format.
use Rattle.std.specs.Prelude.{List, Result, Ok, Err}
use Rattle.tb_task.specs.declared.incoming.Incoming.{Incoming}
use Rattle.tb_board.specs.declared.board.Board.{Board}
use Rattle.tb_import.specs.declared.imported.ImportCounts.{ImportCounts}
use Rattle.tb_import.specs.declared.refusal.ImportRefusal.{ImportRefusal}
use Rattle.tb_import.specs.declared.refusal.ImportRefusal.TheVariants as import
use Rattle.tb_import.specs.Refusal.{judged_import}
use Rattle.tb_core.specs.declared.command.AnswerDetail.{AnswerDetail}
use Rattle.tb_core.specs.declared.command.AnswerDetail.TheVariants.{Imported}
use Rattle.tb_core.specs.declared.refusal.Refusal.{Refusal}
use Rattle.tb_core.specs.declared.refusal.Refusal.TheVariants.{BadTaskAt, Cycle, Full}

abbrev pub refusal_of : ImportRefusal → Refusal
refusal_of (import.BadTask at field) = BadTaskAt at field
refusal_of import.Cycle = Cycle
refusal_of import.Full = Full

-- the board after the import, and its counts
abbrev pub told_of : Result (Board × ImportCounts) ImportRefusal
    → Result (Board × AnswerDetail) Refusal
told_of (Ok r) = Ok (r.0, Imported r.1)
told_of (Err refusal) = Err (refusal_of refusal)

abbrev pub judged_import_json : Board → List Incoming → Result (Board × AnswerDetail) Refusal
judged_import_json b is = told_of (judged_import b is)
