-- Lives of files: runs of the server over the bytes of a file and its log, each of which begins with bytes that the one before may have
-- left, whenever that one stopped.
use Rattle.std.specs.Prelude.{◌≡◌, ℕ, Bool, false, List, [], ◌∷◌, ◌++◌, Option, length}
use Rattle.sqlite.specs.Files.{HoldsDatabase}
use Rattle.sqlite_trees.specs.Tree.{Trees}
use Rattle.sqlite_wal.specs.Recovery.{Image}
use Rattle.tb_calls.specs.Call.{State}
use Rattle.tb_calls.specs.Leaving.{IsAfterSome}
use Rattle.tb_calls.specs.declared.call.Call.{Call}
use Rattle.tb_calls.specs.declared.reply.Reply.{Reply}
use Rattle.tb_core.specs.GoodWorld.{IsGoodWorld}
use Rattle.tb_desk.specs.Sessions.{Sent, calls_of}
use Rattle.tb_headline.specs.Headline.{IsAsUnstopped, IsFileOf, SendsAll, Service, ServeInTurn, ServedInTurn, WereKnown, all_standing, as_came, calls_handled, sendings}
use Rattle.tb_serve.specs.Server.{Timed, server}
use Rattle.tb_serve.specs.Telling.{after}
use Rattle.tb_serve.specs.Turns.{Happening, Run, Step, Talk, done_in}
use Rattle.tb_site.specs.declared.site.Site.{Site}

-- the bytes of a log and its file hold the rows of a state
pub record HoldsState (s : State) (image : Image) : Type 0 where
  pub trees : Trees
  pub held : HoldsDatabase image trees
  pub rows : IsFileOf s trees

-- A run of the server: its page, what was done to its connections, what these held when it began and when it ended, and whether its store
-- failed at last.
pub record ServerRun : Type 0 where
  pub site : Site
  pub done : List (ℕ × Happening (Option ℕ))
  pub talks : ℕ → Talk
  pub later : ℕ → Talk
  pub stopped : Bool

-- From a state on, all of it was done in these steps; or all before the turn in which the store failed, which may have been of a call.
pub record IsServing (s : State) (x : ServerRun) : Type 0 where
  pub steps : List (Step (Option ℕ) Timed)
  pub middle : ℕ → Talk
  pub rest : List (ℕ × Happening (Option ℕ))
  pub begun : List Call
  pub done_is : done_in steps ++ rest ≡ x.done
  pub run : Run (server x.site) s x.talks steps (after s (calls_handled steps)) middle
  pub whole : x.stopped ≡ false → (rest ≡ []) × (begun ≡ []) × (middle ≡ x.later)

-- the state after the calls that such a run handled, and after the one that was begun at most
abbrev pub IsLeftBy : (s : State) (x : ServerRun) → IsServing s x → State → Type 0
IsLeftBy s x is t =
    IsAfterSome s (calls_handled is.steps ++ is.begun) (length (calls_handled is.steps)) t

-- A run that began over the first bytes may leave the second.
abbrev pub RunsTo : Image → ServerRun → Image → Type 0
RunsTo start x next = (s : State) → HoldsState s start
    → ∥ ((is : IsServing s x) × (t : State) × HoldsState t next × IsLeftBy s x is t) ∥₁

-- each run begins with bytes that the one before may have left
abbrev pub RunInTurn : Image → List ServerRun → Image → Type 0
RunInTurn start [] last = last ≡ start
RunInTurn start (x ∷ xs) last = (next : Image) × RunsTo start x next × RunInTurn next xs last

-- the runs one after the other, each from the state that the one before left
abbrev pub ServeAll : State → List ServerRun → State → Type 0
ServeAll s [] t = t ≡ s
ServeAll s (x ∷ xs) t =
    (is : IsServing s x) × (mid : State) × IsLeftBy s x is mid × ServeAll mid xs t

-- the calls of each run are these calls of a list
abbrev pub AreSentIn : (s : State) (runs : List ServerRun) (t : State) → ServeAll s runs t
    → List (List Sent) → Type 0
AreSentIn s [] t on [] = Unit {0}
AreSentIn s [] t on (sent ∷ more) = ⊥
AreSentIn s (x ∷ xs) t on [] = ⊥
AreSentIn s (x ∷ xs) t (is, mid, left, on) (sent ∷ more) =
    (calls_of sent ≡ calls_handled is.steps ++ is.begun) × AreSentIn mid xs t on more

-- sessions with the pages and the connections of these runs
abbrev pub AreOfRuns : List ServerRun → List Service → Type 0
AreOfRuns [] [] = Unit {0}
AreOfRuns [] (y ∷ ys) = ⊥
AreOfRuns (x ∷ xs) [] = ⊥
AreOfRuns (x ∷ xs) (y ∷ ys) = (y.site ≡ x.site) × (y.talks ≡ x.talks) × AreOfRuns xs ys

-- The runs are sessions in a row. Where these send a list of calls until all are answered, they lead where the list leads that is handled
-- once, each reply is that of the list, and each connection is served what its own messages ask for.
pub record EndAsUnstopped (s : State) (runs : List ServerRun) (t : State) : Type 0 where
  pub sessions : List Service
  pub replies : List (List Reply)
  pub are : AreOfRuns runs sessions
  pub serve : ServeInTurn s sessions replies t
  pub headline : (calls : List Call) → SendsAll calls 0 (sendings sessions)
      → WereKnown s (as_came (sendings sessions)) 0 (all_standing (sendings sessions))
      → IsAsUnstopped s calls (sendings sessions) replies t × ServedInTurn s sessions

-- The headline, of bytes: over bytes that hold a good state, runs of the server whenever each stops leave bytes that hold the state to
-- which their calls lead, by whatever list these are sent.
abbrev pub HeadlineOfFiles : Type 0
HeadlineOfFiles = (s : State) (start last : Image) (runs : List ServerRun)
    → IsGoodWorld s.world → HoldsState s start → RunInTurn start runs last
    → ∥ ((t : State) × HoldsState t last × (on : ServeAll s runs t)
    × ((sent : List (List Sent)) → AreSentIn s runs t on sent → EndAsUnstopped s runs t)) ∥₁
