-- Calls, and what takes them back.
use Rattle.std.specs.Prelude.{false, Bool, List, [], ◌∷◌, codes, Option, Some, None, if◌then◌else◌}
use Rattle.std.specs.Str.{bytes_eq}
use Rattle.tb_my.specs.Days.{Text}
use Rattle.tb_my.specs.Tags.{is_among}
use Rattle.tb_my.specs.Telling.{told_link}
use Rattle.tb_my.specs.declared.look.Seen.{Seen}
use Rattle.tb_my.specs.declared.sent.Sent.{Sent}
use Rattle.tb_task.specs.TaskId.{id_text}

-- a call of these words, and the words of the call that takes it back
abbrev pub call_sent : List Text → Text → List Text → Sent
call_sent words told back = record {
  words = words;
  told = told;
  back = back;
  call = None;
  adds = None;
  is_json = false;
}

-- Rule: `tb undo` takes back done, delete, start, stop, notes of any text and links. Tried by my.sh.
unfoldable pub opposite_word : Text → Option Text
opposite_word word =
    if bytes_eq word (codes "done") then Some (codes "reopen")
    else if bytes_eq word (codes "delete") then Some (codes "reopen")
    else if bytes_eq word (codes "start") then Some (codes "stop")
    else if bytes_eq word (codes "stop") then Some (codes "start")
    else if bytes_eq word (codes "annotate") then Some (codes "denotate")
    else if bytes_eq word (codes "denotate") then Some (codes "annotate")
    else if bytes_eq word (codes "depend") then Some (codes "undepend")
    else if bytes_eq word (codes "undepend") then Some (codes "depend")
    else None

abbrev pub opposite_of : Option Text → Text → Text → Text → List Text
opposite_of None board third fourth = []
opposite_of (Some word) board third fourth = word ∷ board ∷ third ∷ fourth ∷ []

abbrev pub opposite_words : Text → Text → Text → Text → List Text
opposite_words name board third fourth = opposite_of (opposite_word name) board third fourth

-- ---- links

abbrev pub is_linked : Seen → Seen → Bool
is_linked first second = is_among (id_text second.id) first.needs

abbrev pub link_sent : Text → Text → Text → Seen → Seen → Sent
link_sent name verb board first second = call_sent
    (name ∷ board ∷ id_text first.id ∷ id_text second.id ∷ [])
    (told_link first.description verb second.description)
    (opposite_words name board (id_text first.id) (id_text second.id))
