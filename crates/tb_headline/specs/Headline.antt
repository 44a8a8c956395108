-- The life of a file: what a session over it begins with and leaves; sessions in a row, each of which ends by a stop or by itself; and
-- sessions that serve connections: whatever turns these take, it is the life of the list of their calls.
use Rattle.std.specs.Prelude.{◌≡◌, ◌⊎◌, ℕ, ◌==◌, false, List, ◌∷◌, ◌++◌, Option, length, take, ◌+◌, ◌<◌, ◌≤◌, true, if◌then◌else◌, [], Some, slice_get}
use Rattle.sqlite.specs.State.{HasCleanDisk, State as Database}
use Rattle.sqlite_trees.specs.Tree.{Trees}
use Rattle.tb_calls.specs.declared.call.Call.{Call}
use Rattle.tb_calls.specs.Call.{State, replies_to, once, plain, reply}
use Rattle.tb_calls.specs.Leaving.{IsAfterSome, Only}
use Rattle.tb_lookup.specs.Stored.{AreOldTreesOf, AreTreesOf}
use Rattle.tb_serve.specs.Server.{Stops, Timed, calls_among, calls_at, server}
use Rattle.tb_calls.specs.declared.reply.Reply.{Reply}
use Rattle.tb_serve.specs.Telling.{after, told_reply, told_text}
use Rattle.tb_serve.specs.Turns.{EachServed, handled, Happening, Run, Step, Talk, done_in}
use Rattle.tb_site.specs.declared.site.Site.{Site}
use Rattle.tb_core.specs.GoodWorld.{IsGoodWorld}
use Rattle.tb_desk.specs.Sessions.{IsAgain, IsCopy, Sending, Sent, WasKnown, calls_of, comes_at_once, is_key_at, next_after, replies_at, stands}
use Rattle.tb_http.specs.declared.answer.ContentType.TheVariants.{Json}
use Rattle.tb_http.specs.Message.{takes_body}
use Rattle.tb_http.specs.Wire.{is_last}

-- The trees are all rows of the state: in the tables of this version, in those of the second, or in those of the first, where each
-- board looks one ahead.
abbrev pub IsFileOf : State → Trees → Type 0
IsFileOf s db = AreTreesOf s db ⊎ AreOldTreesOf s db

-- this state is held, and a stop leaves it alone
pub record IsAt (s : State) (now : State → Type 0) (may_leave : State → Type 0) : Type 0 where
  pub held : now s
  pub only : Only s may_leave

-- The one premise of what is promised of a session over a file: the disk returned what was written, wherever one looked,
-- to the end of the session.
abbrev pub WhileHonest : Database → Type 0 → Type 0
WhileHonest d promise = HasCleanDisk d → promise

-- each content that a stop may leave is one of these
abbrev pub StopLeaves : Database → (Trees → Type 0) → Type 0
StopLeaves d P = WhileHonest d ((db : Trees) → d.may_leave db → P db)

-- Each content that a stop may leave is the rows of a state after some of the calls, all that were answered among them,
-- and one more at most.
abbrev pub Leaves : State → List Call → ℕ → Database → Type 0
Leaves s calls answered d = (db : Trees) → d.may_leave db
    → (t : State) × AreTreesOf t db × IsAfterSome s calls answered t

-- the first calls are answered as if nothing ever stopped, and so is what is held and what a stop leaves
pub record IsSession (s : State) (calls : List Call) (replies : List Reply) (now : State → Type 0)
    (d : Database) : Type 0 where
  pub told : replies ≡ replies_to s (take (length replies) calls)
  pub held : (t : State) × now t × IsAfterSome s calls (length replies) t
  pub leaves : Leaves s calls (length replies) d

-- ---- a session that serves connections

-- the calls of all connections, in the order in which they were handled
abbrev pub calls_handled : List (Step (Option ℕ) Timed) → List Call
calls_handled steps = calls_among (handled steps)

-- Each connection, from where it is opened on, is served what its own messages ask for, up to
-- anywhere before another is opened in its place.
abbrev pub AllServed : Site → State → (ℕ → Talk) → List (Step (Option ℕ) Timed)
    → (ℕ → Talk) → Type 0
AllServed site s talks steps later = EachServed (server site) s talks steps later

-- All that was done to connections was done in these steps, and nothing else. They lead to the
-- state of all their calls, each acting once; and this state alone is left.
pub record IsPlayed (site : Site) (s : State) (done : List (ℕ × Happening (Option ℕ)))
    (talks later : ℕ → Talk)
    (now may_leave : State → Type 0) (d : Database) : Type 0 where
  pub steps : List (Step (Option ℕ) Timed)
  pub done_is : done_in steps ≡ done
  pub run : Run (server site) s talks steps (after s (calls_handled steps)) later
  pub served : AllServed site s talks steps later
  pub at : IsAt (after s (calls_handled steps)) now may_leave
  pub leaves : Leaves s (calls_handled steps) (length (calls_handled steps)) d

-- The same up to the turn of a connection in which the store failed: the call of the message that
-- was taken then, if it asked for one, may be left or not, and all before it are.
pub record IsCut (site : Site) (s : State) (done : List (ℕ × Happening (Option ℕ)))
    (talks later : ℕ → Talk)
    (now may_leave : State → Type 0) (d : Database) : Type 0 where
  pub steps : List (Step (Option ℕ) Timed)
  pub middle : ℕ → Talk
  pub place : ℕ
  pub last : Happening (Option ℕ)
  pub rest : List (ℕ × Happening (Option ℕ))
  pub done_is : done_in steps ++ (place, last) ∷ rest ≡ done
  pub run : Run (server site) s talks steps (after s (calls_handled steps)) middle
  pub served : AllServed site s talks steps middle
  -- what came of that turn; its first part is the message
  pub failed : Stops site (after s (calls_handled steps)) last (middle place)
      (later place) now may_leave
  pub others : (c : ℕ) → (place == c) ≡ false → later c ≡ middle c
  pub leaves : Leaves s (calls_handled steps ++ calls_at failed.0) (length (calls_handled steps)) d

-- ---- sessions in a row

-- Each session begins with the state that the one before left, tells the answers to the calls that were answered, and
-- leaves the state after the calls that stand: all that were answered, and one more at most.
abbrev pub Lives : State → List Sending → List (List Reply) → State → Type 0
Lives s [] [] t = t ≡ s
Lives s [] (r ∷ rs) t = ⊥
Lives s (x ∷ xs) [] t = ⊥
Lives s (x ∷ xs) (r ∷ rs) t =
    (r ≡ take x.answered (replies_to s (calls_of x.sent))) × (x.answered ≤ x.stood)
    × (x.stood ≤ x.answered + 1)
    × (mid : State) × (mid ≡ plain s (once s (take x.stood (calls_of x.sent)))) × Lives mid xs rs t

-- A session to which these calls were sent, which told these replies, and one of the states that a stop may leave of it:
-- the life that continues from that state is one that began with this session. The parts are those of `IsSession`.
abbrev pub LivesOn : Type 0
LivesOn = (s t end : State) (sent : List Sent) (replies : List Reply) (xs : List Sending)
    (more : List (List Reply))
    → replies ≡ replies_to s (take (length replies) (calls_of sent))
    → IsAfterSome s (calls_of sent) (length replies) t → Lives t xs more end
    → (stood : ℕ)
    × Lives s (record { sent = sent; answered = length replies; stood = stood } ∷ xs)
    (replies ∷ more) end

-- ---- how a list is sent

-- What is sent is a copy of a call of the list: equal but for its key and its moment.
pub record IsSentOf (calls : List Call) (x : Sent) : Type 0 where
  pub first : Call
  pub is_first : slice_get calls x.number ≡ Some first
  pub copy : IsCopy first x.call

-- From the call of this number on, the calls of the list are sent in order, with their keys. In between or behind, copies of
-- calls that were sent before are sent, with any keys. The list is of all calls, whoever sends them over whichever connection.
abbrev pub AreSent : List Call → ℕ → List Sent → Type 0
AreSent calls next [] = Unit {0}
AreSent calls next (x ∷ xs) =
    IsSentOf calls x
    × (((x.number ≡ next) × (is_key_at calls next x.call.key ≡ true) × AreSent calls (next + 1) xs)
    ⊎ ((x.number < next) × AreSent calls next xs))

-- Each session goes on from the first call of the list that was not answered, until all are.
abbrev pub SendsAll : List Call → ℕ → List Sending → Type 0
SendsAll calls next [] = next ≡ length calls
SendsAll calls next (x ∷ xs) = AreSent calls next x.sent
    × SendsAll calls (next_after next (take x.answered x.sent)) xs

-- ---- the list as it came

-- the calls that stand, session after session
abbrev pub all_standing : List Sending → List Sent
all_standing [] = []
all_standing (x ∷ xs) = stands x ++ all_standing xs

-- the first call of each number from this one on
abbrev pub first_of_each : ℕ → List Sent → List Call
first_of_each next [] = []
first_of_each next (x ∷ xs) = if x.number == next then x.call ∷ first_of_each (next + 1) xs
    else first_of_each next xs

-- the list, with each call at the moment at which it stood first
abbrev pub as_came : List Sending → List Call
as_came xs = first_of_each 0 (all_standing xs)

-- one list is the other again, call by call
abbrev pub AreAgain : List Call → List Call → Type 0
AreAgain [] [] = Unit {0}
AreAgain [] (d ∷ ds) = ⊥
AreAgain (c ∷ cs) [] = ⊥
AreAgain (c ∷ cs) (d ∷ ds) = IsAgain c d × AreAgain cs ds

-- Where a call comes again behind the one after it in the list, or with another key, its caller was known when it came first.
abbrev pub WereKnown : State → List Call → ℕ → List Sent → Type 0
WereKnown s calls next [] = Unit {0}
WereKnown s calls next (x ∷ xs) = (comes_at_once calls next x ≡ false → WasKnown s calls x.number)
    × WereKnown s calls (next_after next (x ∷ [])) xs

-- From the call of this number on, the calls of the list and nothing besides.
abbrev pub AreInLine : ℕ → List Sent → Type 0
AreInLine next [] = Unit {0}
AreInLine next (x ∷ xs) = (x.number ≡ next) × AreInLine (next + 1) xs

-- Each session sends what remains of the list, and nothing besides.
abbrev pub SendsRest : ℕ → List Sending → Type 0
SendsRest next [] = Unit {0}
SendsRest next (x ∷ xs) = AreInLine next x.sent
    × SendsRest (next_after next (take x.answered x.sent)) xs

-- ---- the headline

-- a state after a list of calls that was sent so, and the answers that were given
pub record IsAsUnstopped (s : State) (calls : List Call) (xs : List Sending)
    (replies : List (List Reply)) (t : State) : Type 0 where
  -- the same calls, each at the moment at which it stood first
  pub list : AreAgain calls (as_came xs)
  -- handled once, without a stop, they lead to this state and are told the same
  pub state : t ≡ plain s (once s (as_came xs))
  pub replies_are : replies ≡ replies_at s (as_came xs) 0 xs
  -- no cycles; each recurring task's instances are numbered from zero, none doubled or skipped
  pub good : IsGoodWorld t.world

-- Sessions that send a list of calls, whenever they stop and whatever comes again at whatever moment, lead where the list
-- leads that is handled once.
abbrev pub Headline : Type 0
Headline = (s : State) (calls : List Call) (xs : List Sending)
    (replies : List (List Reply)) (t : State)
    → IsGoodWorld s.world → SendsAll calls 0 xs → WereKnown s (as_came xs) 0 (all_standing xs)
    → Lives s xs replies t
    → IsAsUnstopped s calls xs replies t

-- What remains of a list may be sent with nothing known of its callers.
abbrev pub RestIsFree : Type 0
RestIsFree = (s : State) (calls : List Call) (xs : List Sending)
    (replies : List (List Reply)) (t : State)
    → SendsAll calls 0 xs → SendsRest 0 xs → Lives s xs replies t
    → WereKnown s (as_came xs) 0 (all_standing xs)

-- ---- sessions that serve connections

-- A session that serves connections: its page, what they hold when it begins, its steps, what they
-- hold when it ends, and its calls as calls of a list.
pub record Service : Type 0 where
  pub site : Site
  pub talks : ℕ → Talk
  pub steps : List (Step (Option ℕ) Timed)
  pub later : ℕ → Talk
  pub sending : Sending

abbrev pub sendings : List Service → List Sending
sendings [] = []
sendings (x ∷ xs) = x.sending ∷ sendings xs

-- the replies to the calls of messages, each in the state that all messages before it, of whatever
-- connection, led to
abbrev pub replies_among : State → List Timed → List Reply
replies_among s [] = []
replies_among s (m ∷ ms) = replies_to s (calls_at m) ++ replies_among (after s (calls_at m)) ms

-- the text that answers a message is made of the reply to the call that it asks for
abbrev pub TellsReplies : Type 0
TellsReplies = (site : Site) (s : State) (before : ℕ) (m : Timed) (call : Call)
    → calls_at m ≡ call ∷ []
    → (server site).text s before m
    ≡ told_text (told_reply Json (reply s [] call)) (is_last m.received.closes before)
    (takes_body m.received.message)

-- The steps are a run of the server, over any connections in any turns. The calls that it handled,
-- in that order, are the answered ones of those that are sent, and told these replies; they stand,
-- and one more at most.
pub record Serves (s : State) (x : Service) (replies : List Reply) : Type 0 where
  pub end : State
  pub run : Run (server x.site) s x.talks x.steps end x.later
  pub answered : calls_handled x.steps ≡ take x.sending.answered (calls_of x.sending.sent)
  pub told : replies ≡ replies_among s (handled x.steps)
  pub low : x.sending.answered ≤ x.sending.stood
  pub high : x.sending.stood ≤ x.sending.answered + 1

-- the state that a session leaves
abbrev pub left_by : State → Service → State
left_by s x = after s (take x.sending.stood (calls_of x.sending.sent))

-- the session of this page and these steps, which handled the first calls of those that are sent
abbrev pub service_of : Site → (ℕ → Talk) → List (Step (Option ℕ) Timed) → (ℕ → Talk) → List Sent
    → ℕ → Service
service_of site talks steps later sent stood = record {
  site = site;
  talks = talks;
  steps = steps;
  later = later;
  sending = record { sent = sent; answered = length (calls_handled steps); stood = stood };
}

-- Whatever is left of a session that serves connections, by what it promises (`leaves` of
-- `IsPlayed` and `IsCut`), it is what such a session leaves.
abbrev pub StopsJoin : Type 0
StopsJoin = (site : Site) (s end t : State) (talks later : ℕ → Talk)
    (steps : List (Step (Option ℕ) Timed)) (more : List Call)
    (sent : List Sent) → Run (server site) s talks steps end later
    → IsAfterSome s (calls_handled steps ++ more) (length (calls_handled steps)) t
    → calls_of sent ≡ calls_handled steps ++ more
    → (stood : ℕ) × Serves s (service_of site talks steps later sent stood)
    (replies_among s (handled steps))
    × (t ≡ left_by s (service_of site talks steps later sent stood))

-- Each session begins with the state that the one before left, whenever that one stopped.
abbrev pub ServeInTurn : State → List Service → List (List Reply) → State → Type 0
ServeInTurn s [] [] t = t ≡ s
ServeInTurn s [] (r ∷ rs) t = ⊥
ServeInTurn s (x ∷ xs) [] t = ⊥
ServeInTurn s (x ∷ xs) (r ∷ rs) t = Serves s x r × ServeInTurn (left_by s x) xs rs t

-- in each session each connection is served what its own messages ask for
abbrev pub ServedInTurn : State → List Service → Type 0
ServedInTurn s [] = Unit {0}
ServedInTurn s (x ∷ xs) = AllServed x.site s x.talks x.steps x.later × ServedInTurn (left_by s x) xs

-- Sessions that serve connections, in which these send a list of calls, whatever turns they take,
-- whenever the sessions stop and whatever comes again at whatever moment, lead where the list leads
-- that is handled once; and the replies that the connections are told are those of that list.
abbrev pub HeadlineOfConnections : Type 0
HeadlineOfConnections =
    (s : State) (calls : List Call) (xs : List Service) (replies : List (List Reply)) (t : State)
    → IsGoodWorld s.world → SendsAll calls 0 (sendings xs)
    → WereKnown s (as_came (sendings xs)) 0 (all_standing (sendings xs))
    → ServeInTurn s xs replies t
    → IsAsUnstopped s calls (sendings xs) replies t × ServedInTurn s xs
