-- Which tasks words after `list` ask for, in which order.
use Rattle.std.specs.Prelude.{ℕ, Bool, true, false, ◌+◌, ◌-◌, ◌==◌, ◌||◌, min, is_some, List, [], ◌∷◌, ◌++◌, codes, drop, Option, Some, None, Result, Ok, Err, if◌then◌else◌}
use Rattle.std.specs.Str.{bytes_eq}
use Rattle.tb_my.specs.Days.{Text, after_key, day_named}
use Rattle.tb_my.specs.Outcome.{or_fault}
use Rattle.tb_my.specs.Part.{after_either, has_sign, is_named}
use Rattle.tb_my.specs.Zone.{today}
use Rattle.tb_my.specs.declared.fault.MyFault.{MyFault}
use Rattle.tb_my.specs.declared.fault.MyFault.TheVariants.{NoDay, NoFilter, NoForm, NoOption, NoPriority}
use Rattle.tb_my.specs.declared.query.Days.{Days}
use Rattle.tb_my.specs.declared.query.Listing.{Listing}
use Rattle.tb_my.specs.declared.query.Listing.TheVariants as listing
use Rattle.tb_my.specs.declared.query.Next.{Next}
use Rattle.tb_my.specs.declared.query.Next.TheVariants.{Filter, Order, Text as Texts}
use Rattle.tb_my.specs.declared.query.Query.{Query}
use Rattle.tb_my.specs.declared.query.Sort.{Sort}
use Rattle.tb_my.specs.declared.query.Sort.TheVariants as sort
use Rattle.tb_my.specs.declared.query.Standing.{Standing}
use Rattle.tb_my.specs.declared.query.Standing.TheVariants as standing
use Rattle.tb_my.specs.declared.query.Test.{Test}
use Rattle.tb_my.specs.declared.query.Test.TheVariants as test
use Rattle.tb_my.specs.declared.word.MyWord.TheVariants as my
use Rattle.tb_my.specs.declared.zone.Clock.{Clock}
use Rattle.tb_values.specs.Outcome.{◌>>=◌}

-- the open tasks, by urgency
abbrev pub all_open : Listing → Query
all_open l = record {
  tests = [];
  sort = sort.Urgency;
  is_json = false;
  standing = standing.Open;
  listing = l;
}

-- a test that a task has to pass, or not to pass
abbrev pub with_test : Query → Test → Bool → Query
with_test query one is_so =
    record query { tests = query.tests ++ (record { test = one; is_so = is_so }) ∷ [] }

-- what no words ask for: of the next ones those that wait for nothing
abbrev pub begun : Listing → Query
begun listing.Tasks = all_open listing.Tasks
begun listing.Next =
    with_test (with_test (all_open listing.Next) test.Waiting false) test.Blocked false
begun listing.Projects = all_open listing.Projects
begun listing.Tags = all_open listing.Tags

-- ---- days

abbrev pub one_day : ℕ → Days
one_day day = record { first = day; last = day }

-- the seven days that begin today
abbrev pub week_ahead : ℕ → Days
week_ahead today = record { first = today; last = today + 6 }

-- the seven days that end today
abbrev pub week_back : ℕ → Days
week_back today = record { first = today - 6; last = today }

abbrev pub before : ℕ → Days
before day = if day == 0 then record { first = 1; last = 0 }
    else record { first = 0; last = day - 1 }

abbrev pub after : ℕ → Days
after day = record { first = min (day + 1) 18446744073709551615; last = 18446744073709551615 }

abbrev pub day_or_fault : Clock → Text → Result ℕ MyFault
day_or_fault clock word = or_fault (NoDay word) (day_named clock word)

-- a week, or a day by its name
abbrev pub days_in : Clock → Days → Text → Result Days MyFault
days_in clock week word = if bytes_eq word (codes "week") then Ok week
    else (do
      day ← day_or_fault clock word
      Ok (one_day day))

abbrev pub before_or : Clock → Option Text → Result Days MyFault → Result Days MyFault
before_or clock None other = other
before_or clock (Some word) other = do
  day ← day_or_fault clock word
  Ok (before day)

abbrev pub after_or : Clock → Option Text → Result Days MyFault → Result Days MyFault
after_or clock None other = other
after_or clock (Some word) other = do
  day ← day_or_fault clock word
  Ok (after day)

-- the days before or after one, a week, or a day by its name
abbrev pub due_days : Clock → Text → Result Days MyFault
due_days clock word =
    before_or clock (after_key (codes "before:") word)
    (after_or clock (after_key (codes "after:") word)
    (days_in clock (week_ahead (today clock)) word))

abbrev pub due_in : Clock → Query → Text → Bool → Result Query MyFault
due_in clock query word is_so = do
  days ← due_days clock word
  Ok (with_test query (test.Due days) is_so)

-- ---- where a task stands

-- tasks that stand elsewhere, in place of the open ones
abbrev pub with_standing : Query → Text → Standing → Bool → Result Query MyFault
with_standing query word place true = Ok (record query { standing = place })
with_standing query word place false = Err (NoFilter word)

unfoldable pub standing_named : Text → Option Standing
standing_named status =
    if bytes_eq status (codes "pending") then Some standing.Pending
    else if bytes_eq status (codes "waiting") then Some standing.Waiting
    else if bytes_eq status (codes "recurring") then Some standing.Recurring
    else if bytes_eq status (codes "completed") || bytes_eq status (codes "done")
    then Some standing.Completed
    else if bytes_eq status (codes "deleted") then Some standing.Deleted
    else if bytes_eq status (codes "all") then Some standing.Any
    else None

abbrev pub standing_or : Query → Text → Option Standing → Bool → Result Query MyFault
standing_or query word None is_so = Err (NoFilter word)
standing_or query word (Some place) is_so = with_standing query word place is_so

abbrev pub status_filter : Query → Text → Text → Bool → Result Query MyFault
status_filter query word status is_so = standing_or query word (standing_named status) is_so

-- completed tasks, in place of the open ones
abbrev pub done_in : Clock → Query → Text → Text → Bool → Result Query MyFault
done_in clock query word day is_so = do
  days ← days_in clock (week_back (today clock)) day
  with_standing (with_test query (test.Done days) true) word standing.Completed is_so

-- ---- filters

-- Rule: a word that looks as a filter and isn't one refuses the words. Tried by my.sh.
abbrev pub text_filter : Query → Text → Bool → Result Query MyFault
text_filter query word is_so = if is_named word then Err (NoFilter word)
    else Ok (with_test query (test.Says word) is_so)

-- a filter of one word, or a text
unfoldable pub word_filter : Text → Query → Text → Bool → Result Query MyFault
word_filter me query word is_so =
    if bytes_eq word (codes "mine") then Ok (with_test query (test.For me) is_so)
    else if bytes_eq word (codes "overdue") then Ok (with_test query test.Overdue is_so)
    else if bytes_eq word (codes "blocked") then Ok (with_test query test.Blocked is_so)
    else if bytes_eq word (codes "waiting") then Ok (with_test query test.Waiting is_so)
    else if bytes_eq word (codes "done") then with_standing query word standing.Completed is_so
    else if bytes_eq word (codes "recurring")
    then with_standing query word standing.Recurring is_so
    else if bytes_eq word (codes "all") then with_standing query word standing.Any is_so
    else text_filter query word is_so

abbrev pub or_query : Option (Result Query MyFault) → Result Query MyFault → Result Query MyFault
or_query (Some query) other = query
or_query None other = other

abbrev pub priority_filter : Query → Text → Bool → Result Query MyFault
priority_filter query priority is_so =
    if bytes_eq priority [] || (bytes_eq priority (codes "H") || (bytes_eq priority (codes "M")
    || bytes_eq priority (codes "L")))
    then Ok (with_test query (test.Priority priority) is_so)
    else Err (NoPriority priority)

abbrev pub priority_if : Query → Option Text → Bool → Option (Result Query MyFault)
priority_if query None is_so = None
priority_if query (Some priority) is_so = Some (priority_filter query priority is_so)

abbrev pub project_if : Query → Option Text → Bool → Option (Result Query MyFault)
project_if query None is_so = None
project_if query (Some project) is_so = Some (Ok (with_test query (test.Project project) is_so))

abbrev pub status_if : Query → Text → Option Text → Bool → Option (Result Query MyFault)
status_if query word None is_so = None
status_if query word (Some status) is_so = Some (status_filter query word status is_so)

unfoldable pub other_filter : Text → Query → Text → Bool → Result Query MyFault
other_filter me query word is_so =
    or_query (priority_if query (after_either (codes "pri:") (codes "priority:") word) is_so)
    (or_query (project_if query (after_either (codes "project:") (codes "pro:") word) is_so)
    (or_query (status_if query word (after_key (codes "status:") word) is_so)
    (word_filter me query word is_so)))

abbrev pub person_named : Text → Text → Text
person_named me name = if bytes_eq name (codes "me") then me else name

abbrev pub person_if : Text → Query → Option Text → Bool → Option (Result Query MyFault)
person_if me query None is_so = None
person_if me query (Some name) is_so =
    Some (Ok (with_test query (test.For (person_named me name)) is_so))

abbrev pub due_if : Clock → Query → Option Text → Bool → Option (Result Query MyFault)
due_if clock query None is_so = None
due_if clock query (Some day) is_so = Some (due_in clock query day is_so)

abbrev pub done_if : Clock → Query → Text → Option Text → Bool → Option (Result Query MyFault)
done_if clock query word None is_so = None
done_if clock query word (Some day) is_so = Some (done_in clock query word day is_so)

unfoldable pub filter_named : Clock → Text → Query → Text → Bool → Result Query MyFault
filter_named clock me query word is_so =
    or_query (due_if clock query (after_key (codes "due:") word) is_so)
    (or_query (done_if clock query word (after_key (codes "done:") word) is_so)
    (or_query (person_if me query (after_either (codes "for:") (codes "assignee:") word) is_so)
    (other_filter me query word is_so)))

-- +project, @tag, or another one
abbrev pub with_filter : Clock → Text → Query → Text → Bool → Result Query MyFault
with_filter clock me query word is_so =
    if has_sign 43 word then Ok (with_test query (test.Project (drop 1 word)) is_so)
    else if has_sign 64 word then Ok (with_test query (test.Tag (drop 1 word)) is_so)
    else filter_named clock me query word is_so

-- `--json`, and no other option
abbrev pub with_option : Query → Text → Result Query MyFault
with_option query word = if bytes_eq word (codes "--json") then Ok (record query { is_json = true })
    else Err (NoOption word)

-- `-@tag` or `-+project`
abbrev pub taken_filter : Clock → Text → Query → Text → Text → Result Query MyFault
taken_filter clock me query word filter =
    if has_sign 43 filter || has_sign 64 filter then with_filter clock me query filter false
    else Err (NoFilter word)

abbrev pub taken_or : Clock → Text → Query → Text → Option Text → Result Query MyFault
taken_or clock me query word None = with_filter clock me query word true
taken_or clock me query word (Some filter) = taken_filter clock me query word filter

abbrev pub not_or : Clock → Text → Query → Text → Option Text → Result Query MyFault
not_or clock me query word (Some filter) = with_filter clock me query filter false
not_or clock me query word None =
    if is_some (after_key (codes "--") word) then with_option query word
    else taken_or clock me query word (after_key (codes "-") word)

-- an option, or a filter that tasks have to pass, or not to pass after `not:` or `-`
abbrev pub with_word : Clock → Text → Query → Text → Result Query MyFault
with_word clock me query word = not_or clock me query word (after_key (codes "not:") word)

abbrev pub sort_named : Text → Option Sort
sort_named word =
    if bytes_eq word (codes "urgency") then Some sort.Urgency
    else if bytes_eq word (codes "due") then Some sort.Due
    else if bytes_eq word (codes "project") then Some sort.Project
    else None

abbrev pub with_sort : Query → Text → Result Query MyFault
with_sort query word = do
  order ← or_fault (NoForm my.List) (sort_named word)
  Ok (record query { sort = order })

-- what the words ask for beside the query, of which the first is a filter, the order after `--sort`, or a text as all are after `--`
unfoldable pub with_words : Clock → Text → Query → Next → List Text → Result Query MyFault
with_words clock me query Filter [] = Ok query
with_words clock me query Order [] = Err (NoForm my.List)
with_words clock me query Texts [] = Ok query
with_words clock me query Filter (word ∷ words) =
    if bytes_eq word (codes "--sort") then with_words clock me query Order words
    else if bytes_eq word (codes "--") then with_words clock me query Texts words
    else (do
      more ← with_word clock me query word
      with_words clock me more Filter words)
with_words clock me query Order (word ∷ words) = do
  more ← with_sort query word
  with_words clock me more Filter words
with_words clock me query Texts (word ∷ words) =
    with_words clock me (with_test query (test.Says word) true) Texts words

abbrev pub query_of : Clock → Text → Listing → List Text → Result Query MyFault
query_of clock me l words = with_words clock me (begun l) Filter words
