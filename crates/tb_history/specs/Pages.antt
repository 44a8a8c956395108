-- Pages of a board's history.
use Rattle.std.specs.Prelude.{ℕ, ◌-◌, ◌==◌, Bool, false, List, length, map, filter, take, drop, slice_get, Option, Some, None, option_and_then}
use Rattle.tb_history.specs.declared.entry.Entry.{Entry}
use Rattle.tb_history.specs.declared.page.HistoryPage.{HistoryPage}
use Rattle.tb_history.specs.declared.page.ShownEntry.{ShownEntry}
use Rattle.tb_history.specs.declared.page.Which.{Which}
use Rattle.tb_history.specs.declared.page.Which.TheVariants.{Last, From, OfPlace}
use Rattle.tb_history.specs.Contents.{content_shown}
use Rattle.tb_history.specs.History.{numbered}

-- how many entries a page shows at most
abbrev pub most_shown : ℕ
most_shown = 100

-- the last of some values, so many at most
abbrev pub last_of : {X : Type 0} → ℕ → List X → List X
last_of count xs = drop (length xs - count) xs

abbrev pub is_place : Option ℕ → ℕ → Bool
is_place None at = false
is_place (Some place) at = place == at

-- the entry is about the task at this place
abbrev pub is_about : ℕ → ℕ × Entry → Bool
is_about at e = is_place e.1.place at

-- those of a board's entries that are looked at
abbrev pub chosen : Which → List (ℕ × Entry) → List (ℕ × Entry)
chosen Last es = last_of most_shown es
chosen (From n) es = take most_shown (drop (n - 1) es)
chosen (OfPlace at) es = last_of most_shown (filter (is_about at) es)

-- an entry with its number and its task, as it is shown with this content
abbrev pub with_content : ℕ → Entry → Option ℕ → Option (List ℕ) → ShownEntry
with_content n e task content =
    record {
      number = n;
      moment = e.moment;
      member = e.member;
      call = e.id;
      what = e.what;
      task = task;
      content = content;
    }

-- the content that is kept of a person's call, by the call's identifier
abbrev pub KeptContent : Type 0
KeptContent = List ℕ → ℕ → Option (List ℕ)

-- an entry as it is shown, on a board whose tasks have these identifiers
abbrev pub shown_entry : KeptContent → List ℕ → ℕ × Entry → ShownEntry
shown_entry kept ids e =
    with_content e.0 e.1 (option_and_then (slice_get ids) e.1.place)
    (option_and_then (content_shown e.1.what) (kept e.1.member e.1.id))

-- what is seen of a board's history
abbrev pub page_of : KeptContent → List ℕ → List Entry → Which → HistoryPage
page_of kept ids es which =
    record {
      last = length es;
      entries = map (shown_entry kept ids) (chosen which (numbered 1 es));
    }
