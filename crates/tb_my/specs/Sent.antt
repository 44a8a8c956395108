-- What the words of `my` ask a server for: words of `send`, with the uuids of tasks.
use Rattle.std.specs.Prelude.{ℕ, Bool, true, false, not, ◌||◌, ◌&&◌, is_some, List, [], ◌∷◌, codes, take, drop, Option, Some, None, Result, Ok, Err, if◌then◌else◌}
use Rattle.std.specs.Str.{bytes_eq}
use Rattle.tb_my.specs.Adding.{add_call, copy_call}
use Rattle.tb_my.specs.Calls.{call_sent, is_linked, link_sent, opposite_word, opposite_words}
use Rattle.tb_my.specs.Changing.{change_call}
use Rattle.tb_my.specs.Days.{Text, after_key}
use Rattle.tb_my.specs.Look.{task_named}
use Rattle.tb_my.specs.Named.{count_places, named_at_front, tasks_named, unnamed}
use Rattle.tb_my.specs.Outcome.{or_fault}
use Rattle.tb_my.specs.Splitting.{has_blank}
use Rattle.tb_my.specs.Telling.{told_task}
use Rattle.tb_my.specs.Word.{is_of_task, my_word_named}
use Rattle.tb_my.specs.declared.changing.Edit.TheVariants as edit
use Rattle.tb_my.specs.declared.fault.MyFault.{MyFault}
use Rattle.tb_my.specs.declared.fault.MyFault.TheVariants.{Linked, NoForm, NoOption, NoWord}
use Rattle.tb_my.specs.declared.look.Seen.{Seen}
use Rattle.tb_my.specs.declared.sent.Sent.{Sent}
use Rattle.tb_my.specs.declared.sent.TheConstants.{DELETED, DONE, FREED, NEEDS, NOTED, REOPENED, STARTED, STOPPED, UNNOTED}
use Rattle.tb_my.specs.declared.word.MyWord.{MyWord}
use Rattle.tb_my.specs.declared.word.MyWord.TheVariants as word
use Rattle.tb_my.specs.declared.zone.Clock.{Clock}
use Rattle.tb_task.specs.TaskId.{id_text}
use Rattle.tb_todotxt.specs.Words.{joined}
use Rattle.tb_values.specs.Outcome.{◌>>=◌}

-- ---- a look at the board first

-- a word that may say on which tasks a new one depends
abbrev pub may_need : Text → Bool
may_need word = is_some (after_key (codes "dep") word) || has_blank word

abbrev pub some_may_need : List Text → Bool
some_may_need [] = false
some_may_need (word ∷ words) = may_need word || some_may_need words

abbrev pub looks_for : Option MyWord → List Text → Bool
looks_for None rest = false
looks_for (Some word.Add) rest = some_may_need rest
looks_for (Some other) rest = is_of_task other

-- for words behind which tasks stand, and for a new task that may depend on some
abbrev pub looks : List Text → Bool
looks [] = false
looks (first ∷ rest) = looks_for (my_word_named first) rest

-- ---- views, whose answers are told

abbrev pub view_sent : List Text → Bool → List Sent
view_sent words is_json = record (call_sent words [] []) { is_json = is_json } ∷ []

abbrev pub board_view : MyWord → Text → Text → List Text → Result (List Sent) MyFault
board_view w name board [] = Ok (view_sent (name ∷ board ∷ []) false)
board_view w name board (a ∷ more) = Err (NoForm w)

abbrev pub is_json_option : Text → Bool
is_json_option word = bytes_eq word (codes "--json")

-- with `--json` the answer is told as it comes
abbrev pub json_view : MyWord → Text → Text → List Text → Result (List Sent) MyFault
json_view w name board [] = board_view w name board []
json_view w name board (a ∷ []) = if is_json_option a
    then Ok (view_sent (name ∷ board ∷ []) true) else board_view w name board (a ∷ [])
json_view w name board (a ∷ b ∷ more) = board_view w name board (a ∷ b ∷ more)

abbrev pub boards_view : List Text → Result (List Sent) MyFault
boards_view [] = Ok (view_sent (codes "me" ∷ []) false)
boards_view (a ∷ []) = if is_json_option a then Ok (view_sent (codes "me" ∷ []) true)
    else Err (NoForm word.Boards)
boards_view (a ∷ b ∷ more) = Err (NoForm word.Boards)

-- the task that is named, or why there is none
abbrev pub task_in : List Seen → Text → Result Seen MyFault
task_in tasks named = or_fault (unnamed named) (task_named tasks named)

-- a view of one task
abbrev pub task_view : Text → Text → List Seen → Text → Bool → Result (List Sent) MyFault
task_view name board tasks named is_json = do
  task ← task_in tasks named
  Ok (view_sent (name ∷ board ∷ id_text task.id ∷ []) is_json)

-- the history of the board, or of one task
abbrev pub log_view : Text → List Seen → List Text → Result (List Sent) MyFault
log_view board tasks [] = json_view word.Log (codes "history") board []
log_view board tasks (a ∷ []) = if not (is_json_option a)
    then task_view (codes "history-of") board tasks a false
    else json_view word.Log (codes "history") board (a ∷ [])
log_view board tasks (a ∷ b ∷ []) = if is_json_option b
    then task_view (codes "history-of") board tasks a true else Err (NoForm word.Log)
log_view board tasks (a ∷ b ∷ c ∷ more) = Err (NoForm word.Log)

abbrev pub show_view : Text → List Seen → List Text → Result (List Sent) MyFault
show_view board tasks [] = Err (NoForm word.Show)
show_view board tasks (a ∷ []) = task_view (codes "task") board tasks a false
show_view board tasks (a ∷ b ∷ []) = if is_json_option b
    then task_view (codes "task") board tasks a true else Err (NoForm word.Show)
show_view board tasks (a ∷ b ∷ c ∷ more) = Err (NoForm word.Show)

-- ---- calls for tasks

-- the word that closes a task again that was reopened from a status
abbrev pub reopened_from : Text → Option Text
reopened_from status =
    if bytes_eq status (codes "completed") then Some (codes "done")
    else if bytes_eq status (codes "deleted") then Some (codes "delete")
    else None

abbrev pub reopened_if : Option Text → Option Text
reopened_if None = None
reopened_if (Some status) = reopened_from status

abbrev pub back_word : Text → Seen → Option Text
back_word name task = if bytes_eq name (codes "reopen") then reopened_if task.old.status
    else opposite_word name

abbrev pub back_by : Option Text → Text → Seen → List Text
back_by None board task = []
back_by (Some word) board task = word ∷ board ∷ id_text task.id ∷ []

abbrev pub back_words : Text → Text → Seen → List Text
back_words name board task = back_by (back_word name task) board task

abbrev pub task_call : Text → Text → Text → Seen → Sent
task_call name verb board task = call_sent (name ∷ board ∷ id_text task.id ∷ [])
    (told_task verb task.description) (back_words name board task)

abbrev pub calls_of : Text → Text → Text → List Seen → List Sent
calls_of name verb board [] = []
calls_of name verb board (task ∷ named) =
    task_call name verb board task ∷ calls_of name verb board named

abbrev pub task_calls : MyWord → Text → Text → Text → List Seen → List Text
    → Result (List Sent) MyFault
task_calls w name verb board tasks [] = Err (NoForm w)
task_calls w name verb board tasks (a ∷ more) = do
  named ← tasks_named tasks false [] (a ∷ more)
  Ok (calls_of name verb board named)

-- ---- notes

-- words with a space between each two, after a text; before `--` none begins with two hyphens
unfoldable pub text_from : Text → Bool → List Text → Result Text MyFault
text_from text is_text [] = Ok text
text_from text true (word ∷ words) = text_from (joined text word) true words
text_from text false (word ∷ words) =
    if bytes_eq word (codes "--") then text_from text true words
    else if is_some (after_key (codes "--") word) then Err (NoOption word)
    else text_from (joined text word) false words

abbrev pub note_sent : Text → Text → Text → Seen → Text → Sent
note_sent name verb board task note = call_sent (name ∷ board ∷ id_text task.id ∷ note ∷ [])
    (told_task verb task.description) (opposite_words name board (id_text task.id) note)

abbrev pub notes_of : Text → Text → Text → List Seen → Text → List Sent
notes_of name verb board [] note = []
notes_of name verb board (task ∷ named) note =
    note_sent name verb board task note ∷ notes_of name verb board named note

abbrev pub noted : MyWord → Text → Text → Text → List Seen → Text → List Text → Text
    → Result (List Sent) MyFault
noted w name verb board tasks first further [] = Err (NoForm w)
noted w name verb board tasks first further (byte ∷ note) = do
  named ← named_at_front tasks first further
  Ok (notes_of name verb board named (byte ∷ note))

abbrev pub note_call : MyWord → Text → Text → Text → List Seen → List Text
    → Result (List Sent) MyFault
note_call w name verb board tasks [] = Err (NoForm w)
note_call w name verb board tasks (first ∷ more) = do
  note ← text_from [] false (drop (count_places more) more)
  noted w name verb board tasks first (take (count_places more) more) note

-- ---- links

-- Rule: what is needed already isn't asked for. Tried by my.sh.
abbrev pub linked : Text → Text → Text → Seen → Seen → Result (List Sent) MyFault
linked name verb board first second =
    if bytes_eq name (codes "depend") && is_linked first second
    then Err (Linked (link_sent name verb board first second).told)
    else Ok (link_sent name verb board first second ∷ [])

abbrev pub link_call : MyWord → Text → Text → Text → List Seen → List Text
    → Result (List Sent) MyFault
link_call w name verb board tasks [] = Err (NoForm w)
link_call w name verb board tasks (a ∷ []) = Err (NoForm w)
link_call w name verb board tasks (from ∷ to ∷ []) = do
  first ← task_in tasks from
  second ← task_in tasks to
  linked name verb board first second
link_call w name verb board tasks (a ∷ b ∷ c ∷ more) = Err (NoForm w)

-- ---- all words

unfoldable pub sent_by : Text → List Seen → MyWord → List Text → Result (List Sent) MyFault
-- of the list an export is asked for, whatever is to be found in it
sent_by board tasks word.List rest = board_view word.List (codes "export") board []
sent_by board tasks word.Next rest = board_view word.Next (codes "export") board []
sent_by board tasks word.Projects rest = board_view word.Projects (codes "export") board []
sent_by board tasks word.Tags rest = board_view word.Tags (codes "export") board []
sent_by board tasks word.Boards rest = boards_view rest
sent_by board tasks word.People rest = json_view word.People (codes "people") board rest
sent_by board tasks word.Export rest = board_view word.Export (codes "export") board rest
sent_by board tasks word.Todo rest = board_view word.Todo (codes "todo") board rest
sent_by board tasks word.Show rest = show_view board tasks rest
sent_by board tasks word.Log rest = log_view board tasks rest
sent_by board tasks word.Done rest =
    task_calls word.Done (codes "done") DONE.now board tasks rest
sent_by board tasks word.Delete rest =
    task_calls word.Delete (codes "delete") DELETED.now board tasks rest
sent_by board tasks word.Reopen rest =
    task_calls word.Reopen (codes "reopen") REOPENED.now board tasks rest
sent_by board tasks word.Start rest =
    task_calls word.Start (codes "start") STARTED.now board tasks rest
sent_by board tasks word.Stop rest =
    task_calls word.Stop (codes "stop") STOPPED.now board tasks rest
sent_by board tasks word.Note rest =
    note_call word.Note (codes "annotate") NOTED.now board tasks rest
sent_by board tasks word.Unnote rest =
    note_call word.Unnote (codes "denotate") UNNOTED.now board tasks rest
sent_by board tasks word.Needs rest =
    link_call word.Needs (codes "depend") NEEDS.now board tasks rest
sent_by board tasks word.Free rest =
    link_call word.Free (codes "undepend") FREED.now board tasks rest
-- these ask for nothing by themselves, and the others are asked for elsewhere
sent_by board tasks other rest = Err (NoForm other)

unfoldable pub sent_for : Clock → Text → Option ℕ → Text → List Seen → MyWord → List Text
    → Result (List Sent) MyFault
sent_for clock me call board tasks word.Add rest = add_call clock me call board tasks rest
sent_for clock me call board tasks word.Copy rest = copy_call clock me call board tasks rest
sent_for clock me call board tasks word.Change rest =
    change_call clock me board tasks edit.Replace rest
sent_for clock me call board tasks word.Append rest =
    change_call clock me board tasks edit.Append rest
sent_for clock me call board tasks word.Prepend rest =
    change_call clock me board tasks edit.Prepend rest
sent_for clock me call board tasks other rest = sent_by board tasks other rest

abbrev pub sent_with : Clock → Text → Option ℕ → Text → List Seen → Text → Option MyWord
    → List Text → Result (List Sent) MyFault
sent_with clock me call board tasks first None rest = Err (NoWord first)
sent_with clock me call board tasks first (Some w) rest =
    sent_for clock me call board tasks w rest

-- what words ask for at a moment, of a board whose tasks were seen: without words the list
abbrev pub sent_of : Clock → Text → Option ℕ → Text → List Seen → List Text
    → Result (List Sent) MyFault
sent_of clock me call board tasks [] = board_view word.List (codes "export") board []
sent_of clock me call board tasks (first ∷ rest) =
    sent_with clock me call board tasks first (my_word_named first) rest
