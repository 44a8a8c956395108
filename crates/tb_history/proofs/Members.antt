-- The members of an entry stand in byte order of their names, and none is a float.
use Rattle.std.proofs.Common.{◌≡◌, ℕ, List, [], ◌∷◌, map, codes, Option, Some, None, false, refl}
use Rattle.std.specs.Option.{option_map}
use Rattle.serde_json.specs.Data.{Members, member, no_members, number, put, string, unsigned}
use Rattle.serde_json.specs.View.{items_of}
use Rattle.serde_json.specs.Written.{has_float, items_have_float, members_have_float}
use Rattle.tb_task.specs.MomentText.{moment_text}
use Rattle.tb_task.specs.TaskId.{id_text}
use Rattle.tb_deeds.specs.Kinds.{word_of}
use Rattle.tb_history.specs.declared.page.HistoryPage.{HistoryPage}
use Rattle.tb_history.specs.declared.page.ShownEntry.{ShownEntry}
use Rattle.tb_history.specs.Texts.{entry_data, entry_members, entry_put, history_data, put_if_some, with_text}

-- the members as they are put, one by one
abbrev members_put : List ℕ → Option (List ℕ) → List ℕ → List ℕ → ℕ → Option (List ℕ) → List ℕ → Members
members_put call content person moment n task what =
    put (codes "what") (string what)
    (put_if_some (codes "task") task
    (put (codes "number") (number (unsigned n))
    (put (codes "moment") (string moment)
    (put (codes "member") (string person)
    (put_if_some (codes "content") content
    (put_if_some (codes "call") (Some call) no_members))))))

abbrev members_in_order : List ℕ → Option (List ℕ) → List ℕ → List ℕ → ℕ → Option (List ℕ) → List ℕ → Members
members_in_order call content person moment n task what =
    member (codes "call") (string call)
    (with_text (codes "content") content
    (member (codes "member") (string person)
    (member (codes "moment") (string moment)
    (member (codes "number") (number (unsigned n))
    (with_text (codes "task") task
    (member (codes "what") (string what) no_members))))))

put_in_order : (call : List ℕ) (content : Option (List ℕ)) (person moment : List ℕ) (n : ℕ) (task : Option (List ℕ)) (what : List ℕ)
    → members_put call content person moment n task what ≡ members_in_order call content person moment n task what
put_in_order call None person moment n None what = refl
put_in_order call None person moment n (Some task) what = refl
put_in_order call (Some content) person moment n None what = refl
put_in_order call (Some content) person moment n (Some task) what = refl

pub put_in_byte_order : (e : ShownEntry) → entry_put e ≡ entry_members e
unfolding entry_members
put_in_byte_order e = put_in_order (id_text e.call) e.content e.member (moment_text e.moment) e.number (option_map id_text e.task) (word_of e.what)

in_order_without_float : (call : List ℕ) (content : Option (List ℕ)) (person moment : List ℕ) (n : ℕ) (task : Option (List ℕ)) (what : List ℕ)
    → members_have_float (members_in_order call content person moment n task what) ≡ false
in_order_without_float call None person moment n None what = refl
in_order_without_float call None person moment n (Some task) what = refl
in_order_without_float call (Some content) person moment n None what = refl
in_order_without_float call (Some content) person moment n (Some task) what = refl

entry_without_float : (e : ShownEntry) → has_float (entry_data e) ≡ false
unfolding entry_members
entry_without_float e = in_order_without_float (id_text e.call) e.content e.member (moment_text e.moment) e.number (option_map id_text e.task) (word_of e.what)

entries_without_float : (es : List ShownEntry) → items_have_float (items_of (map entry_data es)) ≡ false
entries_without_float [] = refl
entries_without_float (e ∷ es) = rw (entry_without_float e) (entries_without_float es)

pub history_without_float : (board : ℕ) (page : HistoryPage) → has_float (history_data board page) ≡ false
history_without_float board page = rw (entries_without_float page.entries) refl
