-- What a keeper's calls leave, and what a stop leaves.
use Rattle.std.specs.Prelude.{◌≡◌, ◌⊎◌, ℕ, ◌<◌, Bool, true, false, List, [], ◌∷◌, length, Option, Some, None, Result, Ok, Err, IfSome, IsSome}
use Rattle.std.specs.FinMap.{insert}
use Rattle.tb_board.specs.declared.change.Change.{Change}
use Rattle.tb_board.specs.Changing.{changed}
use Rattle.tb_board.specs.Extends.{Extends}
use Rattle.tb_core.specs.GoodWorld.{IsGoodWorld}
use Rattle.tb_core.specs.Shapes.{AreOfOne}
use Rattle.tb_board.specs.declared.world.World.{World}
use Rattle.tb_board.specs.World.{find_board, number_of}
use Rattle.tb_deeds.specs.declared.deed.Deed.{Deed}
use Rattle.tb_history.specs.History.{noted}
use Rattle.tb_calls.specs.declared.call.Call.{Call}
use Rattle.tb_calls.specs.declared.reply.Reply.{Reply}
use Rattle.tb_calls.specs.declared.fault.KeepFault.{KeepFault}
use Rattle.tb_calls.specs.declared.fault.KeepFault.TheVariants.{Memory, Store}
use Rattle.tb_calls.specs.Call.{State, name_of, kept_for, is_known, once, reply}

-- the answer is that the store has failed
abbrev pub is_store : {T : Type 0} → Result T KeepFault → Bool
is_store (Ok x) = false
is_store (Err Memory) = false
is_store (Err Store) = true

-- each state that was held is held, and a stop leaves nothing else than before
pub record IsStill (old : State → Type 0) (old_stops : State → Type 0) (new : State → Type 0)
    (new_stops : State → Type 0) : Type 0 where
  pub held : (s : State) → old s → new s
  pub stops : (s t : State) → old s → new_stops t → old_stops t

-- this state is held or that, and a stop leaves one of the two
pub record HoldsEither (before after : State) (now : State → Type 0)
    (may_leave : State → Type 0) : Type 0 where
  pub held : now before ⊎ now after
  pub stops : (t : State) → may_leave t → (t ≡ before) ⊎ (t ≡ after)

-- a state with changes made, a reply kept for a call, and its deed noted, if it has one
abbrev pub with_reply : State → List Change → Option Deed → Call → Reply → State
with_reply s changes deed c r =
    record {
      world = changed s.world changes;
      kept = insert s.kept (name_of c) (record { content = c.content; reply = r });
      history = noted s.history c.member c.id c.moment deed;
    }

-- a task stands at this place of a board, counted from 0
abbrev pub HasPlace : World → ℕ → ℕ → Type 0
HasPlace w board place = IfSome (find_board w board) (λ b. place < length b.tasks)

-- a deed is on a board that is there, and about a task of that board, if it is about one
pub record IsDeedIn (w : World) (deed : Deed) : Type 0 where
  pub board : IsSome (find_board w deed.board)
  pub place : IfSome deed.place (HasPlace w deed.board)

-- when a call's changes, deed and reply may be put: its person is there, its name is new, the world stays good and keeps what it has, the
-- changes are of one board or of one person, and the deed is on a board that is there then
pub record MayCommit (s : State) (changes : List Change) (deed : Option Deed) (c : Call) : Type 0 where
  pub known : IsSome (number_of s.world c.member)
  pub new : kept_for s c ≡ None
  pub good : IsGoodWorld (changed s.world changes)
  pub extends : Extends s.world (changed s.world changes)
  pub shape : AreOfOne changes
  pub does : IfSome deed (IsDeedIn (changed s.world changes))

-- the call's caller is known, and nothing is kept under its name
pub record IsNew (s : State) (c : Call) : Type 0 where
  pub known : is_known s c ≡ true
  pub new : kept_for s c ≡ None

-- a call that doesn't act in a state, and what it is told
pub record IsSettled (s : State) (c : Call) (r : Reply) : Type 0 where
  pub told : r ≡ reply s [] c
  pub acts_not : once s (c ∷ []) ≡ []
