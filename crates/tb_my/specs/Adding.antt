-- What `add` and `copy` ask a server for.
use Rattle.std.specs.Prelude.{ℕ, false, List, [], ◌∷◌, ◌++◌, codes, Option, Some, None, Result, Ok, Err, if◌then◌else◌}
use Rattle.std.specs.Str.{bytes_eq}
use Rattle.serde_json.specs.Written.{compact_text}
use Rattle.tb_my.specs.Body.{add_data, added_id}
use Rattle.tb_my.specs.Days.{Text}
use Rattle.tb_my.specs.Look.{task_named}
use Rattle.tb_my.specs.Named.{tasks_named, unnamed}
use Rattle.tb_my.specs.Old.{copied_settings}
use Rattle.tb_my.specs.Outcome.{or_fault}
use Rattle.tb_my.specs.Said.{marked_said, nothing_said, said_from, unmarked}
use Rattle.tb_my.specs.Splitting.{has_blank}
use Rattle.tb_my.specs.Tags.{tags_after}
use Rattle.tb_my.specs.Telling.{told_task}
use Rattle.tb_my.specs.declared.adding.TheConstants.{ADDED}
use Rattle.tb_my.specs.declared.fault.MyFault.{MyFault}
use Rattle.tb_my.specs.declared.fault.MyFault.TheVariants.{NoForm}
use Rattle.tb_my.specs.declared.look.Seen.{Seen}
use Rattle.tb_my.specs.declared.said.Said.{Said}
use Rattle.tb_my.specs.declared.sent.Sent.{Sent}
use Rattle.tb_my.specs.declared.word.MyWord.{MyWord}
use Rattle.tb_my.specs.declared.word.MyWord.TheVariants as word
use Rattle.tb_my.specs.declared.zone.Clock.{Clock}
use Rattle.tb_task.specs.TaskId.{id_text}
use Rattle.tb_todotxt.specs.Words.{words_of}
use Rattle.tb_values.specs.Outcome.{◌>>=◌}

-- the words that delete a task that was added
abbrev pub deletion : Text → Option ℕ → List Text
deletion board None = []
deletion board (Some id) = codes "delete" ∷ board ∷ id_text id ∷ []

abbrev pub comma_and_id : Seen → Text
comma_and_id task = codes "," ++ id_text task.id

abbrev pub further_ids : List Seen → Text
further_ids [] = []
further_ids (task ∷ tasks) = comma_and_id task ++ further_ids tasks

-- uuids with commas between them
abbrev pub ids_joined : Seen → List Seen → Text
ids_joined first more = id_text first.id ++ further_ids more

abbrev pub with_needs : Said → List Seen → Said
with_needs said [] = said
with_needs said (task ∷ tasks) = record said {
  settings = said.settings
      ++ (record { name = codes "depends"; value = Some (ids_joined task tasks) }) ∷ [];
}

abbrev pub add_sent : Option ℕ → Text → Said → List Sent
add_sent call board said = record {
  words = codes "add" ∷ board ∷ compact_text (add_data call said) ∷ [];
  told = told_task ADDED.now said.description;
  back = deletion board (added_id call);
  call = call;
  adds = if said.is_json then None else added_id call;
  is_json = said.is_json;
} ∷ []

-- with the uuids of the tasks on which it depends
abbrev pub needing : List Seen → Said → Result Said MyFault
needing tasks said = do
  needed ← tasks_named tasks false [] said.needs
  Ok (with_needs said needed)

-- a new task needs a description
abbrev pub added : Option ℕ → Text → List Seen → MyWord → Said → Result (List Sent) MyFault
added call board tasks word said = if bytes_eq said.description [] then Err (NoForm word)
    else (do
      more ← needing tasks said
      Ok (add_sent call board more))

abbrev pub add_words : Clock → Text → Option ℕ → Text → List Seen → List Text
    → Result (List Sent) MyFault
add_words clock me call board tasks words = do
  said ← said_from clock me (marked_said words) false (unmarked words)
  added call board tasks word.Add said

-- one argument with blanks is read as words
abbrev pub add_call : Clock → Text → Option ℕ → Text → List Seen → List Text
    → Result (List Sent) MyFault
add_call clock me call board tasks [] = add_words clock me call board tasks []
add_call clock me call board tasks (one ∷ []) = if has_blank one
    then add_words clock me call board tasks (words_of one)
    else add_words clock me call board tasks (one ∷ [])
add_call clock me call board tasks (one ∷ two ∷ more) =
    add_words clock me call board tasks (one ∷ two ∷ more)

-- ---- a copy of a task

abbrev pub text_or : Text → Text → Text
text_or text other = if bytes_eq text [] then other else text

-- what the task has, and what was said instead
abbrev pub copied_said : Seen → Said → Said
copied_said task said = record {
  settings = copied_settings task.old ++ said.settings;
  tags = tags_after task.tags said.tags said.untagged;
  untagged = [];
  needs = said.needs;
  is_json = said.is_json;
  description = text_or said.description task.description;
}

abbrev pub copy_call : Clock → Text → Option ℕ → Text → List Seen → List Text
    → Result (List Sent) MyFault
copy_call clock me call board tasks [] = Err (NoForm word.Copy)
copy_call clock me call board tasks (named ∷ words) = do
  task ← or_fault (unnamed named) (task_named tasks named)
  said ← said_from clock me nothing_said false words
  added call board tasks word.Copy (copied_said task said)
