-- A page of a board's history as JSON.
use Rattle.std.specs.Prelude.{ℕ, List, Option, Some, None, option_map, codes, map}
use Rattle.serde_json.specs.Data.{Data, array, number, unsigned, string, object, Members, member, no_members, put}
use Rattle.serde_json.specs.View.{items_of}
use Rattle.serde_json.specs.Written.{compact_text}
use Rattle.tb_task.specs.MomentText.{moment_text}
use Rattle.tb_task.specs.TaskId.{id_text}
use Rattle.tb_deeds.specs.Kinds.{word_of}
use Rattle.tb_history.specs.declared.page.HistoryPage.{HistoryPage}
use Rattle.tb_history.specs.declared.page.ShownEntry.{ShownEntry}

-- a text in front of other members, where there is one
abbrev pub with_text : List ℕ → Option (List ℕ) → Members → Members
with_text name None members = members
with_text name (Some text) members = member name (string text) members

-- the members of an entry, by name; one about no single task has no task, and one whose content isn't shown no content
unfoldable pub entry_members : ShownEntry → Members
entry_members e =
    member (codes "call") (string (id_text e.call))
    (with_text (codes "content") e.content
    (member (codes "member") (string e.member)
    (member (codes "moment") (string (moment_text e.moment))
    (member (codes "number") (number (unsigned e.number))
    (with_text (codes "task") (option_map id_text e.task)
    (member (codes "what") (string (word_of e.what)) no_members))))))

abbrev pub entry_data : ShownEntry → Data
entry_data e = object (entry_members e)

-- a page of the history of a board
abbrev pub history_data : ℕ → HistoryPage → Data
history_data board page = object
    (member (codes "board") (number (unsigned board))
    (member (codes "entries") (array (items_of (map entry_data page.entries)))
    (member (codes "last") (number (unsigned page.last)) no_members)))

abbrev pub history_text : ℕ → HistoryPage → List ℕ
history_text board page = compact_text (history_data board page)

-- a text at its place in byte order of the names, where there is one
abbrev pub put_if_some : List ℕ → Option (List ℕ) → Members → Members
put_if_some name None members = members
put_if_some name (Some text) members = put name (string text) members

-- the members of an entry, put one by one
abbrev pub entry_put : ShownEntry → Members
entry_put e =
    put (codes "what") (string (word_of e.what))
    (put_if_some (codes "task") (option_map id_text e.task)
    (put (codes "number") (number (unsigned e.number))
    (put (codes "moment") (string (moment_text e.moment))
    (put (codes "member") (string e.member)
    (put_if_some (codes "content") e.content
    (put_if_some (codes "call") (Some (id_text e.call)) no_members))))))
