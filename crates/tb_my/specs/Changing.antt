-- What `change`, `append` and `prepend` ask a server for.
use Rattle.std.specs.Prelude.{◌&&◌, not, nat_lt, Bool, true, false, List, [], ◌∷◌, ◌++◌, codes, length, take, drop, Result, Ok, Err, if◌then◌else◌}
use Rattle.serde_json.specs.Written.{compact_text}
use Rattle.tb_my.specs.Body.{back_data, change_data}
use Rattle.tb_my.specs.Calls.{call_sent, is_linked, link_sent}
use Rattle.tb_my.specs.Days.{Text}
use Rattle.tb_my.specs.Named.{count_places, named_at_front, tasks_named}
use Rattle.tb_my.specs.Said.{nothing_said, said_from}
use Rattle.tb_my.specs.Telling.{told_task}
use Rattle.tb_my.specs.declared.changing.Edit.{Edit}
use Rattle.tb_my.specs.declared.changing.Edit.TheVariants.{Append, Prepend, Replace}
use Rattle.tb_my.specs.declared.changing.TheConstants.{CHANGED, NEEDS}
use Rattle.tb_my.specs.declared.fault.MyFault.{MyFault}
use Rattle.tb_my.specs.declared.fault.MyFault.TheVariants.{NoForm, OneTask, Unchanged}
use Rattle.tb_my.specs.declared.look.Seen.{Seen}
use Rattle.tb_my.specs.declared.said.Said.{Said}
use Rattle.tb_my.specs.declared.sent.Sent.{Sent}
use Rattle.tb_my.specs.declared.word.MyWord.{MyWord}
use Rattle.tb_my.specs.declared.word.MyWord.TheVariants as word
use Rattle.tb_my.specs.declared.zone.Clock.{Clock}
use Rattle.tb_task.specs.TaskId.{id_text}
use Rattle.tb_values.specs.Outcome.{◌>>=◌}

abbrev pub edit_word : Edit → MyWord
edit_word Replace = word.Change
edit_word Append = word.Append
edit_word Prepend = word.Prepend

abbrev pub spaced : Text → Text → Text
spaced first second = first ++ 32 ∷ second

-- the description after an edit by words
abbrev pub described : Edit → Text → Text → Text
described Replace old new = new
described Append old new = spaced old new
described Prepend old new = spaced new old

abbrev pub change_sent : Text → Edit → Said → Seen → Sent
change_sent board edit said task = record (call_sent
    (codes "modify" ∷ board ∷ id_text task.id
    ∷ compact_text (change_data task.tags (described edit task.description said.description) said)
    ∷ [])
    (told_task CHANGED.now task.description)
    (codes "modify" ∷ board ∷ id_text task.id ∷ compact_text (back_data task said) ∷ []))
    { is_json = said.is_json }

abbrev pub is_none : {X : Type 0} → List X → Bool
is_none [] = true
is_none (x ∷ xs) = false

-- words say more than on which tasks it depends
abbrev pub says_more : Said → Bool
says_more said = not (is_none said.settings
    && (is_none said.tags && (is_none said.untagged && is_none said.description)))

abbrev pub modified_if : Text → Edit → Said → Seen → List Sent
modified_if board edit said task =
    if says_more said then change_sent board edit said task ∷ [] else []

-- a link, unless it is there
abbrev pub link_if : Text → Seen → Seen → List Sent
link_if board task other = if is_linked task other then []
    else link_sent (codes "depend") NEEDS.now board task other ∷ []

-- to each task that is needed
abbrev pub links_from : Text → Seen → List Seen → List Sent
links_from board task [] = []
links_from board task (other ∷ needed) =
    link_if board task other ++ links_from board task needed

abbrev pub changes_of : Text → Edit → Said → List Seen → List Seen → List Sent
changes_of board edit said needed [] = []
changes_of board edit said needed (task ∷ named) =
    modified_if board edit said task
    ++ (links_from board task needed ++ changes_of board edit said needed named)

-- Rule: several tasks get no new description. Tried by my.sh.
abbrev pub checked_by : Edit → Bool → Bool → Result (Unit {0}) MyFault
checked_by Replace true are_several = Ok tt
checked_by Replace false true = Err OneTask
checked_by Replace false false = Ok tt
checked_by Append true are_several = Err (NoForm word.Append)
checked_by Append false are_several = Ok tt
checked_by Prepend true are_several = Err (NoForm word.Prepend)
checked_by Prepend false are_several = Ok tt

abbrev pub checked_change : Edit → List Seen → Said → Result (Unit {0}) MyFault
checked_change edit named said =
    checked_by edit (is_none said.description) (nat_lt 1 (length named))

abbrev pub some_changes : List Sent → Result (List Sent) MyFault
some_changes [] = Err Unchanged
some_changes (sent ∷ all) = Ok (sent ∷ all)

abbrev pub changed_all : Text → List Seen → Edit → List Seen → Said → Result (List Sent) MyFault
changed_all board tasks edit named said = do
  fits ← checked_change edit named said
  needed ← tasks_named tasks false [] said.needs
  some_changes (changes_of board edit said needed named)

unfoldable pub changed_as : Clock → Text → Text → List Seen → Edit → Text → List Text → List Text
    → Result (List Sent) MyFault
changed_as clock me board tasks edit first further words = do
  named ← named_at_front tasks first further
  said ← said_from clock me nothing_said false words
  changed_all board tasks edit named said

abbrev pub changed_by : Clock → Text → Text → List Seen → Edit → Text → List Text → List Text
    → Result (List Sent) MyFault
changed_by clock me board tasks edit first further [] = Err (NoForm (edit_word edit))
changed_by clock me board tasks edit first further (a ∷ words) =
    changed_as clock me board tasks edit first further (a ∷ words)

-- the tasks at the front, and what the words behind them say
abbrev pub change_call : Clock → Text → Text → List Seen → Edit → List Text
    → Result (List Sent) MyFault
change_call clock me board tasks edit [] = Err (NoForm (edit_word edit))
change_call clock me board tasks edit (first ∷ more) =
    changed_by clock me board tasks edit first
    (take (count_places more) more) (drop (count_places more) more)
