-- What is asked of a server for words of `my`, in which order, and what is printed of the answers.
use Rattle.std.specs.Prelude.{◌≡◌, ℕ, Bool, true, false, ◌&&◌, List, [], ◌∷◌, ◌++◌, codes, Option, Some, None, option_and_then, Result, Ok, Err}
use Rattle.std.specs.Io.KnownBytes.{Appends}
use Rattle.tb_finding.specs.Listing.{found_text}
use Rattle.tb_mine.specs.Printed.{printed_of}
use Rattle.tb_mine.specs.declared.asks.Answer.{Answer}
use Rattle.tb_mine.specs.declared.context.Context.{Context}
use Rattle.tb_my.specs.Days.{Text}
use Rattle.tb_my.specs.Look.{seen_in}
use Rattle.tb_my.specs.Options.{listed_words}
use Rattle.tb_my.specs.Query.{query_of}
use Rattle.tb_my.specs.Sent.{looks, sent_of}
use Rattle.tb_my.specs.Telling.{added_text, number_of_task}
use Rattle.tb_my.specs.declared.fault.MyFault.{MyFault}
use Rattle.tb_my.specs.declared.fault.MyFault.TheVariants.{Linked, NoBoard, NoPlace, NoTask, TwoBoards, Unchanged}
use Rattle.tb_my.specs.declared.look.Seen.{Seen}
use Rattle.tb_my.specs.declared.query.Listing.{Listing}
use Rattle.tb_my.specs.declared.query.Query.{Query}
use Rattle.tb_my.specs.declared.sent.Sent.{Sent}

-- words that were sent, under which identifier if they had to have one, and how they were answered
pub record Asked : Type 0 where
  pub words : List Text
  pub call : Option ℕ
  pub answer : Answer

abbrev pub asked_of : List Text → Option ℕ → Answer → Asked
asked_of words call answer = record { words = words; call = call; answer = answer }

-- what a writer holds, where that is known
abbrev pub Output : Type 0
Output = Option (List ℕ)

-- ---- calls and views, one after the other

abbrev pub IsOf : Sent → Asked → Type 0
IsOf sent asked = (asked.words ≡ sent.words) × (asked.call ≡ sent.call)

-- each was asked for, in this order, and nothing else
abbrev pub AreOf : List Sent → List Asked → Type 0
AreOf [] [] = Unit {0}
AreOf [] (asked ∷ more) = ⊥
AreOf (sent ∷ all) [] = ⊥
AreOf (sent ∷ all) (asked ∷ more) = IsOf sent asked × AreOf all more

-- one refusal refuses the whole
abbrev pub all_accepted : List Asked → Bool
all_accepted [] = true
all_accepted (asked ∷ more) = asked.answer.is_accepted && all_accepted more

-- what is printed of each, in this order
abbrev pub printed_by : (Sent → Answer → Text) → List Sent → List Asked → Text
printed_by print [] asked = []
printed_by print (sent ∷ all) [] = []
printed_by print (sent ∷ all) (asked ∷ more) =
    print sent asked.answer ++ printed_by print all more

pub record IsAskedFor (print : Sent → Answer → Text) (all : List Sent) (asked : List Asked)
    (before after : Output) (is_accepted : Bool) : Type 0 where
  pub each : AreOf all asked
  pub accepted : is_accepted ≡ all_accepted asked
  pub printed : Appends before after (printed_by print all asked)

-- ---- refusals before anything is asked for

-- the board has no such task, the person has no such board or more than one, or there is nothing to do
abbrev pub is_refusal : MyFault → Bool
is_refusal (NoTask word) = true
is_refusal (NoPlace word) = true
is_refusal (Linked told) = true
is_refusal Unchanged = true
is_refusal (NoBoard name) = true
is_refusal (TwoBoards name) = true
is_refusal fault = false

-- It is refused, and nothing is asked for and printed.
abbrev pub IsRefused : List Asked → Output → Output → Bool → Type 0
IsRefused asked before after is_accepted =
    (asked ≡ []) × (after ≡ before) × (is_accepted ≡ false)

-- ---- a look at the board

-- the board's export was asked for, and this came; none came where it was refused
abbrev pub IsLookAt : Text → Asked → Option (List ℕ) → Type 0
IsLookAt board look (Some export) =
    (look ≡ asked_of (codes "export" ∷ board ∷ []) None
    (record { is_accepted = true; body = export }))
IsLookAt board look None =
    (look.words ≡ codes "export" ∷ board ∷ []) × (look.call ≡ None)
    × (look.answer.is_accepted ≡ false)

-- ---- a task that is added

-- a call that adds a task stands alone
abbrev pub adds_of : List Sent → Option ℕ
adds_of [] = None
adds_of (sent ∷ []) = sent.adds
adds_of (sent ∷ other ∷ all) = None

-- the number of a task among those of an export
abbrev pub number_in : ℕ → Option (List ℕ) → Option ℕ
number_in id export =
    option_and_then (number_of_task 0 id) (option_and_then seen_in export)

-- The board is looked at once more, for the number of the task.
pub record IsNumberedBy (context : Context) (sent : Sent) (id : ℕ) (rest : List Asked)
    (before after : Output) (is_accepted : Bool) : Type 0 where
  pub look : Asked
  pub export : Option (List ℕ)
  pub is : IsLookAt context.board look export
  pub alone : rest ≡ look ∷ []
  pub accepted : is_accepted ≡ true
  pub printed : Appends before after (added_text sent.told (number_in id export) ++ 10 ∷ [])

abbrev pub IsNumberedIf : Bool → Context → Sent → ℕ → List Asked → Output → Output → Bool → Type 0
IsNumberedIf true context sent id rest before after is_accepted =
    IsNumberedBy context sent id rest before after is_accepted
IsNumberedIf false context sent id rest before after is_accepted =
    IsRefused rest before after is_accepted

pub record IsAdded (context : Context) (sent : Sent) (id : ℕ) (asked : List Asked)
    (before after : Output) (is_accepted : Bool) : Type 0 where
  pub call : Asked
  pub is : IsOf sent call
  pub rest : List Asked
  pub first : asked ≡ call ∷ rest
  pub numbered : IsNumberedIf call.answer.is_accepted context sent id rest before after is_accepted

-- ---- all calls of words

abbrev pub IsCalled : Context → List Seen → List Sent → Option ℕ → List Asked → Output → Output
    → Bool → Type 0
IsCalled context tasks all None asked before after is_accepted =
    IsAskedFor (printed_of context.clock tasks) all asked before after is_accepted
IsCalled context tasks [] (Some id) asked before after is_accepted = ⊥
IsCalled context tasks (sent ∷ all) (Some id) asked before after is_accepted =
    IsAdded context sent id asked before after is_accepted

-- what words come to, by what they ask for of a board whose tasks were seen
abbrev pub IsAskedSo : Context → List Seen → Result (List Sent) MyFault → List Asked
    → Output → Output → Bool → Type 0
IsAskedSo context tasks (Ok all) asked before after is_accepted =
    IsCalled context tasks all (adds_of all) asked before after is_accepted
IsAskedSo context tasks (Err fault) asked before after is_accepted =
    (is_refusal fault ≡ true) × IsRefused asked before after is_accepted

-- what comes after the look: nothing else, where it was refused
abbrev pub GoesOn : (List ℕ → List Asked → Type 0) → Option (List ℕ) → List Asked
    → Output → Output → Bool → Type 0
GoesOn comes (Some export) more before after is_accepted = comes export more
GoesOn comes None more before after is_accepted = IsRefused more before after is_accepted

-- The board is looked at first.
pub record IsSeen (board : Text) (asked : List Asked) (before after : Output) (is_accepted : Bool)
    (comes : List ℕ → List Asked → Type 0) : Type 0 where
  pub look : Asked
  pub export : Option (List ℕ)
  pub is : IsLookAt board look export
  pub more : List Asked
  pub first : asked ≡ look ∷ more
  pub goes : GoesOn comes export more before after is_accepted

-- the tasks of the export that a query finds are printed, and nothing else is asked for
pub record IsListed (context : Context) (query : Query) (before after : Output) (is_accepted : Bool)
    (export : List ℕ) (more : List Asked) : Type 0 where
  pub text : List ℕ
  pub found : found_text context.clock context.style query export ≡ Some text
  pub printed : Appends before after text
  pub none : more ≡ []
  pub accepted : is_accepted ≡ true

-- what the words of a list come to, by the query that they are
abbrev pub IsListedSo : Context → Result Query MyFault → List Asked → Output → Output → Bool
    → Type 0
IsListedSo context (Ok query) asked before after is_accepted =
    IsSeen context.board asked before after is_accepted
    (IsListed context query before after is_accepted)
IsListedSo context (Err fault) asked before after is_accepted =
    (is_refusal fault ≡ true) × IsRefused asked before after is_accepted

-- what words come to of a board whose tasks an export shows
pub record IsAskedOver (context : Context) (words : List Text) (before after : Output)
    (is_accepted : Bool) (export : List ℕ) (more : List Asked) : Type 0 where
  pub tasks : List Seen
  pub seen : seen_in export ≡ Some tasks
  pub asked : IsAskedSo context tasks
      (sent_of context.clock context.me context.call context.board tasks words)
      more before after is_accepted

-- The tasks that words name are those that the board has now.
abbrev pub IsAskedOfTasks : Context → List Text → List Asked → Output → Output → Bool → Type 0
IsAskedOfTasks context words asked before after is_accepted =
    IsSeen context.board asked before after is_accepted
    (IsAskedOver context words before after is_accepted)

-- ---- all words of a board

abbrev pub IsDoneIf : Bool → Context → List Text → List Asked → Output → Output → Bool → Type 0
IsDoneIf true context words asked before after is_accepted =
    IsAskedOfTasks context words asked before after is_accepted
IsDoneIf false context words asked before after is_accepted =
    IsAskedSo context [] (sent_of context.clock context.me context.call context.board [] words)
    asked before after is_accepted

abbrev pub IsDoneBy : Option (Listing × List Text) → Context → List Text → List Asked → Output
    → Output → Bool → Type 0
IsDoneBy (Some listed) context words asked before after is_accepted =
    IsListedSo context (query_of context.clock context.me listed.0 listed.1)
    asked before after is_accepted
IsDoneBy None context words asked before after is_accepted =
    IsDoneIf (looks words) context words asked before after is_accepted

abbrev pub IsDone : Context → List Text → List Asked → Output → Output → Bool → Type 0
IsDone context words asked before after is_accepted =
    IsDoneBy (listed_words words) context words asked before after is_accepted
