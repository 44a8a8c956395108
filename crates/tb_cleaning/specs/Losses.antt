-- What an import drops of the tasks that it takes.
use Rattle.std.specs.Prelude.{ℕ, ◌+◌, Bool, true, not, ◌&&◌, List, [], ◌∷◌, ◌++◌, nat_lt, codes, Option, Some, None, is_some, map, if◌then◌else◌}
use Rattle.std.specs.List.{list_any}
use Rattle.std.specs.Str.{bytes_eq}
use Rattle.serde_json.specs.Data.{Data, null, boolean, number, string, array, object, Members, no_members, member}
use Rattle.tb_task.specs.Attributes.{is_attribute}
use Rattle.tb_task.specs.TaskId.{id_text}
use Rattle.tb_task.specs.declared.extra.Extra.{Extra}
use Rattle.tb_task.specs.declared.incoming.Incoming.{Incoming}
use Rattle.tb_json.specs.Attribute.{unless_blank}
use Rattle.tb_cleaning.specs.Entries.{Judged, id_of, taken_in}
use Rattle.tb_cleaning.specs.Places.{depends_in, place_of}
use Rattle.tb_cleaning.specs.Respelling.{with_text}
use Rattle.tb_cleaning.specs.Steps.{Text}
use Rattle.tb_cleaning.specs.Telling.{line_of, one_line}
use Rattle.tb_cleaning.specs.declared.losses.TheConstants.{DROPPED, LATER, LINK_LATER, LINK_LOST, NOT_THERE, NO_END, NO_EXTRA, NO_INSTANCE, NO_PLACE, NO_PRIORITY, NO_MASK, NO_RECUR}

-- ---- members

-- the task as it is taken has what a member of a known name says
unfoldable pub is_kept : Text → Incoming → Bool
is_kept name i =
    if bytes_eq name (codes "end") then is_some i.task.end
    else if bytes_eq name (codes "imask") then is_some i.raw_imask
    else if bytes_eq name (codes "mask") then is_some i.raw_mask
    else if bytes_eq name (codes "parent") then is_some i.raw_parent
    else if bytes_eq name (codes "priority") then is_some i.task.priority
    else if bytes_eq name (codes "recur") then is_some i.task.recur
    else true

abbrev pub has_extra : Text → Incoming → Bool
has_extra name i = list_any (λ (extra : Extra). bytes_eq extra.name name) i.task.extras

-- a member says something, and the task as it is taken doesn't
-- Rule: cleaning tells each member that an import drops. Tried by own_cleaning.sh.
abbrev pub is_dropped : Text → Data → Incoming → Bool
is_dropped name d i =
    if is_attribute name then is_some (unless_blank d) && not (is_kept name i)
    else not (has_extra name i)

-- why
unfoldable pub reason_of : Text → Text
reason_of name =
    if bytes_eq name (codes "end") then NO_END.now
    else if bytes_eq name (codes "imask") then NO_PLACE.now
    else if bytes_eq name (codes "mask") then NO_MASK.now
    else if bytes_eq name (codes "parent") then NO_INSTANCE.now
    else if bytes_eq name (codes "priority") then NO_PRIORITY.now
    else if bytes_eq name (codes "recur") then NO_RECUR.now
    else NO_EXTRA.now

abbrev pub drop_text : Text → Text
drop_text name = one_line name ++ (codes ": " ++ reason_of name)

abbrev pub drop_of : Data → Text → Data → Incoming → Option Text
drop_of task name d i = if is_dropped name d i then Some (line_of DROPPED.now task (drop_text name))
    else None

abbrev pub drops_on : Data → Incoming → List Text → Members → List Text
drops_on task i found no_members = found
drops_on task i found (member name d ms) =
    drops_on task i (with_text found (drop_of task name d i)) ms

abbrev pub drops_in : List Text → Data → Incoming → List Text
drops_in found null i = found
drops_in found (boolean b) i = found
drops_in found (number n) i = found
drops_in found (string s) i = found
drops_in found (array ds) i = found
drops_in found (object ms) i = drops_on (object ms) i found ms

abbrev pub drops_of : List Text → Data → Option Incoming → List Text
drops_of found task None = found
drops_of found task (Some i) = drops_in found task i

abbrev pub all_drops : List Text → List Judged → List Text
all_drops found [] = found
all_drops found (e ∷ es) = all_drops (drops_of found e.item (taken_in e.verdict)) es

-- ---- links

abbrev pub link_text : ℕ → Text → Text
link_text id what = codes "the task " ++ (id_text id ++ what)

-- the link of the task at a place to one that isn't brought, or later
abbrev pub link_at : Data → ℕ → ℕ → Option ℕ → Option Text
link_at task place id None = Some (line_of LINK_LOST.now task (link_text id NOT_THERE.now))
link_at task place id (Some other) = if nat_lt place other
    then Some (line_of LINK_LATER.now task (link_text id LATER.now)) else None

abbrev pub links_on : List (Option ℕ) → Data → ℕ → List Text → List ℕ → List Text
links_on ids task place found [] = found
links_on ids task place found (id ∷ more) =
    links_on ids task place (with_text found (link_at task place id (place_of ids id))) more

abbrev pub links_from : List (Option ℕ) → ℕ → List Text → List Judged → List Text
links_from ids place found [] = found
links_from ids place found (e ∷ es) =
    links_from ids (place + 1)
    (links_on ids e.item place found (depends_in (taken_in e.verdict))) es

abbrev pub all_links : List Judged → List Text
all_links es = links_from (map id_of es) 0 [] es
